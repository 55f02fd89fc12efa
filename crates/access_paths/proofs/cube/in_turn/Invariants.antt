use Rattle.std.proofs.Common.{◌≡◌, ◌≤◌, length, drop}
use Rattle.std.specs.Cmp.Lexicographic.{slice_cmp}
use Rattle.access_paths.specs.{compare_literals}
use Rattle.access_paths.proofs.cube.in_turn.Given as goal

abbrev pub invariant-each : goal.invariant-each
invariant-each l = record {
  within : l.before ≤ length l.right;
  equal : slice_cmp compare_literals (drop l.before l.left) (drop l.before l.right) ≡ slice_cmp compare_literals l.left l.right;
}
