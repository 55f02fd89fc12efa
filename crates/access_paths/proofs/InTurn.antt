-- Two lists compared in turn.
use Rattle.std.proofs.Common.{◌≡◌, ℕ, zero, suc, ◌+◌, ◌<◌, ◌≤◌, true, false, List, [], ◌∷◌, length, drop, get_or, Some, None, slice_get, arith, refl, ap, ap₂, sym, ◌∙◌}
use Rattle.std.proofs.lemmas.List.{drop_more}
use Rattle.std.proofs.lemmas.Option.{get_or_from_slice_get, slice_get_within, slice_get_past}
use Rattle.std.proofs.Math.Seq.{drop-nil}
use Rattle.std.specs.Cmp.Lexicographic.{slice_cmp}
use Rattle.std.specs.Ordering.{nat_cmp, ordering_then, is_ne}
use Rattle.std.specs.declared.cmp.Ordering.{Ordering}
use Rattle.std.specs.declared.cmp.Ordering.TheVariants.{Less, Equal, Greater}

then_kept : (o rest : Ordering) → is_ne o ≡ true → o ≡ ordering_then o rest
then_kept Less rest e = refl
then_kept Equal rest e = cc
then_kept Greater rest e = refl

then_rest : (o rest : Ordering) → is_ne o ≡ false → ordering_then o rest ≡ rest
then_rest Less rest e = cc
then_rest Equal rest e = refl
then_rest Greater rest e = cc

module _ {X : Type 0} (R : X → X → Ordering) where
  slice_cmp-drop : (xs ys : List X) (k : ℕ) (x y : X) → k < length xs → x ≡ get_or xs k x → slice_get ys k ≡ Some y
      → slice_cmp R (drop k xs) (drop k ys) ≡ ordering_then (R x y) (slice_cmp R (drop (k + 1) xs) (drop (k + 1) ys))
  slice_cmp-drop xs ys k x y in_xs at_x at_y =
      ap₂ (λ us vs. slice_cmp R us vs)
      (drop_more xs k x in_xs ∙ ap (λ z. z ∷ drop (k + 1) xs) (sym at_x))
      (drop_more ys k y (slice_get_within ys k y at_y) ∙ ap (λ z. z ∷ drop (k + 1) ys) (get_or_from_slice_get ys k y y at_y))

  -- the first list goes on where the second has ended
  pub slice_cmp_longer : (xs ys : List X) (k : ℕ) → k < length xs → slice_get ys k ≡ None → slice_cmp R (drop k xs) (drop k ys) ≡ Greater
  slice_cmp_longer [] ys k in_xs none = absurd (omega arith)
  slice_cmp_longer (x ∷ xs) [] zero in_xs none = refl
  slice_cmp_longer (x ∷ xs) [] (suc k) in_xs none =
      ap (slice_cmp R (drop k xs)) (sym (drop-nil k)) ∙ slice_cmp_longer xs [] k (omega arith) (slice_get_past [] k (omega arith))
  slice_cmp_longer (x ∷ xs) (y ∷ ys) zero in_xs none = cc
  slice_cmp_longer (x ∷ xs) (y ∷ ys) (suc k) in_xs none = slice_cmp_longer xs ys k (omega arith) none

  -- the first list has ended
  pub slice_cmp_ended : (xs ys : List X) (k : ℕ) → length xs ≤ k → k ≤ length xs → k ≤ length ys
      → slice_cmp R (drop k xs) (drop k ys) ≡ nat_cmp (length xs) (length ys)
  slice_cmp_ended [] [] zero up down within = refl
  slice_cmp_ended [] (y ∷ ys) zero up down within = grind arith
  slice_cmp_ended [] ys (suc k) up down within = absurd (omega arith)
  slice_cmp_ended (x ∷ xs) ys zero up down within = absurd (omega arith)
  slice_cmp_ended (x ∷ xs) [] (suc k) up down within = absurd (omega arith)
  slice_cmp_ended (x ∷ xs) (y ∷ ys) (suc k) up down within =
      slice_cmp_ended xs ys k (omega arith) (omega arith) (omega arith) ∙ nat_cmp_suc (length xs) (length ys)
    where
      nat_cmp_suc : (m n : ℕ) → nat_cmp m n ≡ nat_cmp (suc m) (suc n)
      nat_cmp_suc m n = grind arith

  -- a pair that differs decides
  pub slice_cmp_decided : (xs ys : List X) (k : ℕ) (x y : X) (o : Ordering) → k < length xs → x ≡ get_or xs k x → slice_get ys k ≡ Some y
      → o ≡ R x y → is_ne o ≡ true → o ≡ slice_cmp R (drop k xs) (drop k ys)
  slice_cmp_decided xs ys k x y o in_xs at_x at_y is differs =
      let rest = slice_cmp R (drop (k + 1) xs) (drop (k + 1) ys) in
      then_kept o rest differs ∙ ap (λ p. ordering_then p rest) is ∙ sym (slice_cmp-drop xs ys k x y in_xs at_x at_y)

  -- a pair that is equal is passed
  pub slice_cmp_passed : (xs ys : List X) (k : ℕ) (x y : X) (o : Ordering) → k < length xs → x ≡ get_or xs k x → slice_get ys k ≡ Some y
      → o ≡ R x y → is_ne o ≡ false → slice_cmp R (drop (k + 1) xs) (drop (k + 1) ys) ≡ slice_cmp R (drop k xs) (drop k ys)
  slice_cmp_passed xs ys k x y o in_xs at_x at_y is equal =
      let rest = slice_cmp R (drop (k + 1) xs) (drop (k + 1) ys) in
      sym (then_rest o rest equal) ∙ ap (λ p. ordering_then p rest) is ∙ sym (slice_cmp-drop xs ys k x y in_xs at_x at_y)
