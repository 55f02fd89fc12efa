use Rattle.std.proofs.Common.{◌≡◌, ℕ, ◌+◌, ◌≤◌, List, ◌++◌, take}
use Rattle.easl_model.specs.{place_after}
use Rattle.cv_lex.proofs.spot.place_behind.Given as goal

abbrev pub invariant-loop-character : goal.invariant-loop-character
invariant-loop-character l = record {
  line : l.place.line ≤ l.fn.place.line + l.character-index;
  col : l.place.col ≤ l.fn.place.col + l.character-index;
  place : (before : List ℕ) → l.fn.place ≡ place_after before → l.place ≡ place_after (before ++ take l.character-index l.characters);
}
