use Rattle.std.proofs.Common.{◌≡◌, get_or, map, take}
use Rattle.cube_cover.specs.{none_such}
use Rattle.cube_cover.proofs.cover.cube_of.Given as goal

abbrev pub invariant-each : goal.invariant-each
invariant-each l = l.chosen.items ≡ map (λ n. get_or l.literals n none_such) (take l.number-index l.numbers)
