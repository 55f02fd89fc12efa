use Rattle.std.proofs.Common.{◌≡◌, ◌++◌, drop, take}
use Rattle.alias_cases.specs.{inserted}
use Rattle.alias_cases.proofs.gathering.place_for.Given as goal

-- it belongs behind those that are passed
abbrev pub invariant-each : goal.invariant-each
invariant-each l = inserted l.term l.list ≡ take l.place l.list ++ inserted l.term (drop l.place l.list)
