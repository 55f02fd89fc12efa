use Rattle.std.proofs.Common.{◌-◌, ◌≤◌, length}
use Rattle.derivation.specs.Rounds.{IsSoFar, asked_to}
use Rattle.derivation.proofs.closure.ask_families.Given as goal

abbrev pub invariant-each : goal.invariant-each
invariant-each l = record {
  so_far : IsSoFar l.spec (asked_to l.spec l.found.families.items l.number) l.found.families.items l.found.clauses.items l.found.updates.items;
  few : length l.found.families.items ≤ 64;
}

abbrev pub decreases-each : goal.decreases-each
decreases-each l = 64 - l.number
