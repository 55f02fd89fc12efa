use Rattle.std.proofs.Common.{◌≡◌, ◌++◌, map}
use Rattle.std.specs.List.{insert}
use Rattle.access_paths.specs.{below}
use Rattle.access_paths.proofs.permutations.insert_everywhere.Given as goal

abbrev pub invariant-each : goal.invariant-each
invariant-each l = l.made.items ≡ l.initial.made.items ++ map (λ n. insert l.list n l.variable) (below l.place)
