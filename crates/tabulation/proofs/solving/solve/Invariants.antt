use Rattle.std.proofs.Common.{◌≡◌, ◌+◌, ◌-◌}
use Rattle.client_facts.specs.Held.{setting}
use Rattle.tabulation.specs.Indexed.{AreNoted, IsCallerOf, IsExitOf}
use Rattle.tabulation.specs.SoFar.{IsSoFar}
use Rattle.tabulation.proofs.solving.solve.Given as goal

abbrev pub invariant-each : goal.invariant-each
invariant-each g l = record {
  so_far : IsSoFar (setting l.boolean) l.solution l.at;
  left : AreNoted (IsExitOf (setting l.boolean)) l.solution l.at l.exits;
  called : AreNoted (IsCallerOf (setting l.boolean)) l.solution l.at l.callers;
  steps : l.steps ≡ l.fn.steps + l.at;
}

-- a list has fewer places than numbers of 64 bits
abbrev pub decreases-each : goal.decreases-each
decreases-each g l = 18446744073709551615 - l.at
