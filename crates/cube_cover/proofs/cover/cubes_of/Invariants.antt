use Rattle.std.proofs.Common.{◌≡◌, take}
use Rattle.cube_cover.specs.Literals as told
use Rattle.cube_cover.proofs.cover.cubes_of.Given as goal

abbrev pub invariant-each : goal.invariant-each
invariant-each l = l.cubes.items ≡ told.cubes_of l.literals (take l.candidate-index l.chosen)
