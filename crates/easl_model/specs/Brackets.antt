-- Unclosed brackets.
use Rattle.std.specs.Prelude.{ℕ, suc, pred, ◌≤◌, ◌<◌, List, [], ◌∷◌}
use Rattle.easl_model.specs.declared.token.Kind.{Kind}
use Rattle.easl_model.specs.declared.token.Kind.TheVariants as kind
use Rattle.easl_model.specs.declared.token.Mark.TheVariants as mark
use Rattle.easl_model.specs.declared.token.Token.{Token}

-- how many are unclosed behind one more token; it falls where it is above 0
abbrev pub turned : ℕ → Kind → ℕ
turned level (kind.Mark mark.Open) = suc level
turned level (kind.Mark mark.Begin) = suc level
turned level (kind.Mark mark.Close) = pred level
turned level (kind.Mark mark.End) = pred level
turned level k = level

abbrev pub level_after : ℕ → List Token → ℕ
level_after level [] = level
level_after level (t ∷ ts) = level_after (turned level t.kind) ts

-- nowhere are more than `most` unclosed, where so many are before
abbrev pub StaysShallow : ℕ → ℕ → List Token → Type 0
StaysShallow most level [] = Unit {0}
StaysShallow most level (t ∷ ts) = (turned level t.kind ≤ most) × StaysShallow most (turned level t.kind) ts

-- at most 64 are unclosed at once
abbrev pub Shallow : List Token → Type 0
Shallow = StaysShallow 64 0

-- this is the first token that makes a 65th unclosed one, behind these
pub record IsFirstDeep (before : List Token) (t : Token) : Type 0 where
  pub shallow : Shallow before
  pub deep : 64 < turned (level_after 0 before) t.kind
