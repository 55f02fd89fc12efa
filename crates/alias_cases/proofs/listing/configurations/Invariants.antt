use Rattle.std.proofs.Common.{◌≤◌, length}
use Rattle.alias_cases.proofs.Arranged.{IsLevel}
use Rattle.alias_cases.proofs.listing.configurations.Given as goal

-- all configurations of the first terms
abbrev pub invariant-each : goal.invariant-each
invariant-each l = record {
  level : IsLevel l.steps l.classes (length l.yielded) l.level;
  few : length l.level ≤ 65536;
}
