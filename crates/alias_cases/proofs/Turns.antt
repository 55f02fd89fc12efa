-- Turns of the loops, and their ends.
use Rattle.std.proofs.Common.{◌≡◌, ℕ, zero, suc, ◌+◌, ◌<◌, min, List, [], ◌∷◌, ◌++◌, length, drop, take, flat_map, Option, Some, None, get_or, slice_index, arith, refl, ap, sym, subst, ◌∙◌, length-append}
use Rattle.std.specs.Prelude.{slice_get}
use Rattle.std.specs.List.{AllZip}
use Rattle.std.proofs.lemmas.List.Folds.{length-flat_map-take}
use Rattle.std.proofs.lemmas.Option.{slice_get-get_or}
use Rattle.access_paths.specs.declared.term.Term.{Term}
use Rattle.case_model.specs.{AreConfigurations, AreMoreThan, IsTermList}
use Rattle.alias_cases.specs.{AreSteps, led_to, next_level, open_blocks}
use Rattle.alias_cases.specs.declared.steps.Step.{Step}
use Rattle.alias_cases.proofs.Arranged.{IsLevel}
use Rattle.alias_cases.proofs.Ladders.{as_many_steps, ladder}
use Rattle.alias_cases.proofs.Levels.{level_next}
use Rattle.alias_cases.proofs.Whole.{level_many, level_whole}

-- nothing is left where one list is passed
pub led-end : (bs : List ℕ) (own : Step) (ss : List (Option Step)) (cs : List ℕ) (n : ℕ) → n ≡ min (length ss) (length cs)
    → led_to bs own (drop n ss) (drop n cs) ≡ None
led-end bs own [] cs zero e = refl
led-end bs own [] cs (suc n) e = absurd (omega (arith, e))
led-end bs own (s ∷ ss) [] zero e = refl
led-end bs own (s ∷ ss) [] (suc n) e = absurd (omega (arith, e))
led-end bs own (s ∷ ss) (c ∷ cs) zero e = absurd (omega (arith, e))
led-end bs own (s ∷ ss) (c ∷ cs) (suc n) e = led-end bs own ss cs n (omega (arith, e))

pub open-end : (class next : ℕ) (ks bs : List ℕ) (n : ℕ) → n ≡ min (length bs) (length ks) → open_blocks class next (drop n ks) (drop n bs) ≡ next ∷ []
open-end class next ks [] zero e = refl
open-end class next ks [] (suc n) e = absurd (omega (arith, e))
open-end class next [] (b ∷ bs) zero e = refl
open-end class next [] (b ∷ bs) (suc n) e = absurd (omega (arith, e))
open-end class next (k ∷ ks) (b ∷ bs) zero e = absurd (omega (arith, e))
open-end class next (k ∷ ks) (b ∷ bs) (suc n) e = open-end class next ks bs n (omega (arith, e))

pub zip_more : {A B : Type 0} (R : A → B → Type 0) (xs : List A) (ys : List B) (i : ℕ) (x : A) (y : B) → i < length xs → get_or xs i x ≡ x
    → AllZip R (take i xs) ys → R x y → AllZip R (take (i + 1) xs) (ys ++ y ∷ [])
zip_more R [] ys i x y within at zip is = absurd (omega arith)
zip_more R (z ∷ xs) [] zero x y within at zip is = (subst (λ w. R w y) (sym at) is, tt)
zip_more R (z ∷ xs) (w ∷ ys) zero x y within at zip is = absurd zip
zip_more R (z ∷ xs) [] (suc i) x y within at zip is = absurd zip
zip_more R (z ∷ xs) (w ∷ ys) (suc i) x y within at zip is =
    let one_more : suc (i + 1) ≡ suc i + 1 = omega arith in
    subst (λ k. AllZip R (take k (z ∷ xs)) (w ∷ (ys ++ y ∷ []))) one_more (zip.0, zip_more R xs ys i x y (omega arith) at zip.1 is)

module _ (ts : List Term) (classes : List ℕ) (is : IsTermList ts classes) (steps : List (Option Step)) (are : AreSteps ts steps) (n : ℕ) (level : List (List ℕ)) (so_far : IsLevel steps classes n level) where
  pub level_end : n ≡ min (length steps) (length classes) → AreConfigurations ts classes level
  level_end e =
      let long = as_many_steps ts classes is steps are in
      let same = (ladder ts classes is steps are).as_many in
      let all : n ≡ length ts = omega (arith, e, long, same) in
      level_whole ts classes is steps are level (subst (λ k. IsLevel steps classes k level) all so_far)

  module _ (own : Option Step) (class : ℕ) (within : n < length steps) (step_is : own ≡ get_or steps n own) (class_is : class ≡ slice_index classes n) where
    pub level_turn : IsLevel steps classes (suc n) (next_level steps classes own class level)
    level_turn =
        let at : slice_get steps n ≡ Some own = slice_get-get_or steps n own within ∙ ap Some (sym step_is) in
        subst (λ c. IsLevel steps classes (suc n) (next_level steps classes own c level)) (sym class_is)
        (level_next steps classes (ladder ts classes is steps are) n own level at so_far)

    pub level_over : (most : ℕ) → most < length (next_level steps classes own class level) → AreMoreThan most ts classes
    level_over most many =
        let left = rest n (length ts) (let long = as_many_steps ts classes is steps are in omega (arith, within, long)) in
        level_many ts classes is steps are most left.0 (suc n) (next_level steps classes own class level) left.1 level_turn many
      where
        rest : (a b : ℕ) → a < b → (left : ℕ) × (suc a + left ≡ b)
        rest a zero h = absurd (omega arith)
        rest zero (suc b) h = (b, omega arith)
        rest (suc a) (suc b) h = let r = rest a b (omega arith) in (r.0, omega (arith, r.1))

-- what one item gives, with what the items before it give, is no more than what all give
pub no_more : {X Y : Type 0} (f : X → List Y) (xs : List X) (i : ℕ) (x : X) (most : ℕ) → i < length xs → get_or xs i x ≡ x
    → most < length (flat_map f (take i xs) ++ f x) → most < length (flat_map f xs)
no_more f xs i x most within at many =
    let all = length-flat_map-take f xs i x within in
    let here : length (f (get_or xs i x)) ≡ length (f x) = ap (λ y. length (f y)) at in
    omega (arith, many, all, here, length-append (flat_map f (take i xs)) (f x))
