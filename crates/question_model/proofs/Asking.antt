-- Answers that a heap gives.
use Rattle.std.proofs.Common.{◌≡◌, ℕ, Bool, true, false, ◌&&◌, if◌then◌else◌, List, [], ◌∷◌, ◌++◌, refl, ap, ap₂, sym, ◌∙◌, eq-eqb}
use Rattle.std.specs.Cmp.{nat_eq_equiv}
use Rattle.std.specs.declared.cmp.Ordering.{Ordering}
use Rattle.std.specs.declared.cmp.Ordering.TheVariants.{Less, Equal, Greater}
use Rattle.easl_heap.specs.{Object}
use Rattle.access_paths.specs.{by_objects, compare_terms, object_of}
use Rattle.access_paths.specs.declared.term.Term.{Term}
use Rattle.question_model.specs.{Done, Long, Needs, answered, ask, by_order, is_term, said, ◌>>=◌}
use Rattle.question_model.specs.Stage.{Stage}
use Rattle.question_model.proofs.Orders.{are_terms, same_term}
use Rattle.question_model.specs.declared.answer.Answer.{Answer}

-- what is done in two parts is done in each
pub bound : {A B : Type 0} (s : Stage A) (f : A → Stage B) (y : B) → (s >>= f) ≡ Done y → (x : A) × (s ≡ Done x) × (f x ≡ Done y)
bound (Done x) f y is = (x, refl, is)
bound (Needs t u) f y is = absurd (cc)
bound Long f y is = absurd (cc)

module _ (heap : List Object) (objects : List ℕ) where
  -- the answers are those of this heap
  abbrev pub Agree : List Answer → Type 0
  Agree [] = Unit {0}
  Agree (a ∷ rest) = (a.same ≡ by_objects heap objects a.less a.more) × Agree rest

  pub agree_more : (answers : List Answer) (t u : Term) (same : Bool) → Agree answers → same ≡ by_objects heap objects t u
      → Agree (answers ++ said t u same ∷ [])
  agree_more [] t u same agree is = (is, tt)
  agree_more (a ∷ rest) t u same agree is = (agree.0, agree_more rest t u same agree.1 is)

  found : (a : Answer) (rest : Stage Bool) (t u : Term) (b found : Bool) → (is_term a.less t && is_term a.more u) ≡ found
      → a.same ≡ by_objects heap objects a.less a.more → (rest ≡ Done b → b ≡ by_objects heap objects t u) → (if found then Done a.same else rest) ≡ Done b
      → b ≡ by_objects heap objects t u
  found a rest t u b true e agrees others is =
      let terms = are_terms a.less t a.more u e in
      let same : a.same ≡ b = cc in
      sym same ∙ agrees ∙ ap₂ (by_objects heap objects) terms.0 terms.1
  found a rest t u b false e agrees others is = others is

  pub answered_so : (answers : List Answer) → Agree answers → (t u : Term) (b : Bool) → answered answers t u ≡ Done b → b ≡ by_objects heap objects t u
  answered_so [] agree t u b is = absurd (cc)
  answered_so (a ∷ rest) agree t u b is =
      found a (answered rest t u) t u b (is_term a.less t && is_term a.more u) refl agree.0 (answered_so rest agree.1 t u b) is

  by_order_so : (answers : List Answer) → Agree answers → (o : Ordering) (t u : Term) (b : Bool) → compare_terms t u ≡ o → by_order answers o t u ≡ Done b
      → b ≡ by_objects heap objects t u
  by_order_so answers agree Less t u b e is = answered_so answers agree t u b is
  by_order_so answers agree Equal t u b e is =
      let yes : true ≡ b = cc in
      sym yes ∙ sym (eq-eqb (object_of heap objects t) (object_of heap objects u) (ap (object_of heap objects) (same_term t u e)))
  by_order_so answers agree Greater t u b e is =
      answered_so answers agree u t b is ∙ nat_eq_equiv.symm (object_of heap objects u) (object_of heap objects t)

  -- where the answers are those of this heap, so is what is asked
  pub ask_so : (answers : List Answer) → Agree answers → (t u : Term) (b : Bool) → ask answers t u ≡ Done b → b ≡ by_objects heap objects t u
  ask_so answers agree t u b is = by_order_so answers agree (compare_terms t u) t u b refl is
