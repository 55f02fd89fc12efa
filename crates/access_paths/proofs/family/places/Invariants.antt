use Rattle.std.proofs.Common.{◌≡◌, map}
use Rattle.access_paths.specs.{below, place_of, var}
use Rattle.access_paths.proofs.family.places.Given as goal

abbrev pub invariant-each : goal.invariant-each
invariant-each l = l.places.items ≡ map (λ v. var (place_of l.args v)) (below l.number)
