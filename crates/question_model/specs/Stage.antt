-- A computation that may ask whether two terms lead to one object: run with the answers so far, it is done, needs one
-- more answer, or comes to a term that is too long.
use Rattle.std.specs.Prelude.{Bool, true, List, [], ◌∷◌, ◌&&◌, if◌then◌else◌}
use Rattle.std.specs.declared.cmp.Ordering.{Ordering}
use Rattle.std.specs.declared.cmp.Ordering.TheVariants.{Less, Equal, Greater}
use Rattle.std.specs.Ordering.{is_eq}
use Rattle.access_paths.specs.{compare_terms}
use Rattle.access_paths.specs.declared.term.Term.{Term}
use Rattle.question_model.specs.declared.answer.Answer.{Answer}

pub data Stage (A : Type 0) : Type 0 where
  Done : A → Stage A
  -- whether these two are one, the lesser first
  Needs : Term → Term → Stage A
  -- a term would be too long
  Long : Stage A

infixl 15 ◌>>=◌
abbrev pub ◌>>=◌ : {A B : Type 0} → Stage A → (A → Stage B) → Stage B
Done x >>= f = f x
Needs t u >>= f = Needs t u
Long >>= f = Long

abbrev pub is_term : Term → Term → Bool
is_term t u = is_eq (compare_terms t u)

-- the answer that was given on two terms, the lesser first; where none was, it is needed
abbrev pub answered : List Answer → Term → Term → Stage Bool
answered [] t u = Needs t u
answered (a ∷ rest) t u = if is_term a.less t && is_term a.more u then Done a.same else answered rest t u

abbrev pub by_order : List Answer → Ordering → Term → Term → Stage Bool
by_order answers Less t u = answered answers t u
by_order answers Equal t u = Done true
by_order answers Greater t u = answered answers u t

-- whether two terms lead to one object: identical terms do, for others there must be an answer
abbrev pub ask : List Answer → Term → Term → Stage Bool
ask answers t u = by_order answers (compare_terms t u) t u
