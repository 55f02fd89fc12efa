use Rattle.std.proofs.Common.{ℕ, ◌<◌}
use Rattle.cv_lex.specs.Reading.{EndsComment}
use Rattle.cv_lex.proofs.comment.first_end.Given as goal

abbrev pub invariant-loop-at : goal.invariant-loop-at
invariant-loop-at l = (i : ℕ) → i < l.at → EndsComment l.characters i → ⊥
