use Rattle.std.proofs.Common.{take}
use Rattle.client_facts.specs.Held.{setting}
use Rattle.step_flows.specs.Adding.{Adds, IsBySome}
use Rattle.step_flows.specs.Steps.{IsCopyAt}
use Rattle.step_flows.proofs.next.Next.add_copies.Given as goal

abbrev pub invariant-each : goal.invariant-each
invariant-each l = Adds (IsBySome (IsCopyAt (setting l.self.setting.now) l.self.procedure l.self.point l.target l.source l.family l.before)
    (take l.args-index l.lists)) l.initial.facts l.facts
