use Rattle.std.proofs.Common.{◌≡◌, take}
use Rattle.access_paths.specs.{tree_of}
use Rattle.cube_cover.specs.{answers_of, configurations_at}
use Rattle.cube_cover.proofs.truths.answers_of.Given as goal

abbrev pub invariant-each : goal.invariant-each
invariant-each l = l.answers.items ≡ answers_of l.terms (configurations_at l.cases (take l.number-index l.care)) (tree_of l.tree)
