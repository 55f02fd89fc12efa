use Rattle.std.proofs.Common.{◌≡◌, filter, map}
use Rattle.std.specs.List.{list_any}
use Rattle.access_paths.specs.{below, has, var}
use Rattle.access_paths.proofs.family.variables_of.Given as goal

abbrev pub invariant-each : goal.invariant-each
invariant-each l = l.found.items ≡ map var (filter (λ v. list_any (has v) l.cube.literals) (below l.number))
