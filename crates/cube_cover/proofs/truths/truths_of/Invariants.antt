use Rattle.std.proofs.Common.{◌≡◌, take}
use Rattle.cube_cover.specs.{configurations_at, truths_of}
use Rattle.cube_cover.proofs.truths.truths_of.Given as goal

abbrev pub invariant-each : goal.invariant-each
invariant-each l = l.truths.items ≡ truths_of l.terms (configurations_at l.cases (take l.number-index l.care)) l.literal
