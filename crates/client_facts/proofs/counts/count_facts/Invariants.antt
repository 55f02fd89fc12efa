use Rattle.std.proofs.Common.{◌≡◌, drop}
use Rattle.std.specs.Prelude.{fold}
use Rattle.client_facts.specs.Held.{setting}
use Rattle.client_facts.proofs.Counted.{plus}
use Rattle.client_facts.proofs.counts.count_facts.Given as goal

abbrev pub invariant-each : goal.invariant-each
invariant-each l =
    fold (plus (setting l.setting) l.procedure) l.count (drop l.family-index l.families) ≡ fold (plus (setting l.setting) l.procedure) 0 l.families
