use Rattle.std.proofs.Common.{◌≡◌, take}
use Rattle.std.specs.List.{flat_map}
use Rattle.access_paths.specs.{insertions}
use Rattle.access_paths.proofs.permutations.with_each.Given as goal

abbrev pub invariant-each : goal.invariant-each
invariant-each l = l.made.items ≡ flat_map (insertions l.variable) (take l.list-index l.lists)
