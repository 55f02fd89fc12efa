use Rattle.std.proofs.Common.{◌↔◌, drop}
use Rattle.call_flows.specs.Needs.{Crosses, MeetsAll}
use Rattle.call_flows.specs.Told.{call_told}
use Rattle.client_facts.specs.Calls.{AllThree}
use Rattle.client_facts.specs.Choices.{Choice}
use Rattle.call_flows.proofs.need.need_each.Given as goal

-- with what is needed at the places that are left it is what is needed at all of them
abbrev pub invariant-each : goal.invariant-each
invariant-each l = (c : Choice)
    → (MeetsAll c l.needs × AllThree (Crosses l.crossing c (call_told l.site)) (drop l.at l.classes) (drop l.at l.outer) (drop l.at l.inner))
    ↔ (MeetsAll c l.fn.needs × AllThree (Crosses l.crossing c (call_told l.site)) l.classes l.outer l.inner)
