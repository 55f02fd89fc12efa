-- Where an item first stands.
use Rattle.std.proofs.Common.{◌≡◌, ℕ, zero, suc, ◌<◌, ◌≤◌, Bool, true, false, ◌||◌, cond, not, ◌+◌, List, [], ◌∷◌, ◌++◌, length, Some, refl, ap, ◌∙◌, arith}
use Rattle.std.specs.Prelude.{slice_get}
use Rattle.std.specs.List.{list_any, position_or_len}

one_more : (n : ℕ) → 1 + n ≡ suc n
one_more n = omega arith

module _ {X : Type 0} (is : X → Bool) where
  pub place-most : (xs : List X) → position_or_len is xs ≤ length xs
  place-most [] = omega arith
  place-most (x ∷ xs) = by (is x) (place-most xs)
    where
      by : (b : Bool) → position_or_len is xs ≤ length xs → cond (not b) (1 + position_or_len is xs) 0 ≤ suc (length xs)
      by true rest = omega arith
      by false rest = omega arith

  pub place-none : (xs : List X) → list_any is xs ≡ false → position_or_len is xs ≡ length xs
  place-none [] h = refl
  place-none (x ∷ xs) h = by (is x) h (place-none xs)
    where
      by : (b : Bool) → (b || list_any is xs) ≡ false → (list_any is xs ≡ false → position_or_len is xs ≡ length xs)
          → cond (not b) (1 + position_or_len is xs) 0 ≡ suc (length xs)
      by true h rest = absurd (cc)
      by false h rest = omega (arith, rest h)

  -- the item is there, and it is one for which the test is
  pub place-found : (xs : List X) → list_any is xs ≡ true → (x : X) × (slice_get xs (position_or_len is xs) ≡ Some x) × (is x ≡ true)
  place-found [] h = absurd (cc)
  place-found (x ∷ xs) h = by (is x) refl h (place-found xs)
    where
      by : (b : Bool) → is x ≡ b → (b || list_any is xs) ≡ true
          → (list_any is xs ≡ true → (y : X) × (slice_get xs (position_or_len is xs) ≡ Some y) × (is y ≡ true))
          → (y : X) × (slice_get (x ∷ xs) (cond (not b) (1 + position_or_len is xs) 0) ≡ Some y) × (is y ≡ true)
      by true e h rest = (x, refl, e)
      by false e h rest = let at = rest h in (at.0, ap (slice_get (x ∷ xs)) (one_more (position_or_len is xs)) ∙ at.1, at.2)

  pub place-within : (xs : List X) → list_any is xs ≡ true → position_or_len is xs < length xs
  place-within [] h = absurd (cc)
  place-within (x ∷ xs) h = by (is x) h (place-within xs)
    where
      by : (b : Bool) → (b || list_any is xs) ≡ true → (list_any is xs ≡ true → position_or_len is xs < length xs)
          → cond (not b) (1 + position_or_len is xs) 0 < suc (length xs)
      by true h rest = omega arith
      by false h rest = omega (arith, rest h)

  pub place-append : (xs ys : List X) → position_or_len is xs < length xs → position_or_len is (xs ++ ys) ≡ position_or_len is xs
  place-append [] ys h = absurd (omega arith)
  place-append (x ∷ xs) ys h = by (is x) h (place-append xs ys)
    where
      by : (b : Bool) → cond (not b) (1 + position_or_len is xs) 0 < suc (length xs)
          → (position_or_len is xs < length xs → position_or_len is (xs ++ ys) ≡ position_or_len is xs)
          → cond (not b) (1 + position_or_len is (xs ++ ys)) 0 ≡ cond (not b) (1 + position_or_len is xs) 0
      by true h rest = refl
      by false h rest = omega (arith, rest (omega arith))

  pub any-append : (xs ys : List X) → list_any is xs ≡ true → list_any is (xs ++ ys) ≡ true
  any-append [] ys h = absurd (cc)
  any-append (x ∷ xs) ys h = by (is x) h (any-append xs ys)
    where
      by : (b : Bool) → (b || list_any is xs) ≡ true → (list_any is xs ≡ true → list_any is (xs ++ ys) ≡ true) → (b || list_any is (xs ++ ys)) ≡ true
      by true h rest = refl
      by false h rest = rest h

  pub any-push : (xs : List X) (y : X) → is y ≡ true → list_any is (xs ++ y ∷ []) ≡ true
  any-push [] y h = by (is y) h
    where
      by : (b : Bool) → b ≡ true → (b || false) ≡ true
      by true h = refl
      by false h = h
  any-push (x ∷ xs) y h = by (is x) (any-push xs y h)
    where
      by : (b : Bool) → list_any is (xs ++ y ∷ []) ≡ true → (b || list_any is (xs ++ y ∷ [])) ≡ true
      by true rest = refl
      by false rest = rest

  pub place-push : (xs : List X) (y : X) → list_any is xs ≡ false → is y ≡ true → position_or_len is (xs ++ y ∷ []) ≡ length xs
  place-push [] y h e = by (is y) e
    where
      by : (b : Bool) → b ≡ true → cond (not b) (1 + 0) 0 ≡ 0
      by true e = refl
      by false e = absurd (cc)
  place-push (x ∷ xs) y h e = by (is x) h (λ h'. place-push xs y h' e)
    where
      by : (b : Bool) → (b || list_any is xs) ≡ false → (list_any is xs ≡ false → position_or_len is (xs ++ y ∷ []) ≡ length xs)
          → cond (not b) (1 + position_or_len is (xs ++ y ∷ [])) 0 ≡ suc (length xs)
      by true h rest = absurd (cc)
      by false h rest = omega (arith, rest h)

  pub any-get : (xs : List X) (k : ℕ) (x : X) → slice_get xs k ≡ Some x → is x ≡ true → list_any is xs ≡ true
  any-get [] k x at e = absurd (cc)
  any-get (z ∷ xs) zero x at e = let z_is : is z ≡ true = let same : z ≡ x = cc in ap is same ∙ e in by (is z) z_is
    where
      by : (b : Bool) → b ≡ true → (b || list_any is xs) ≡ true
      by true h = refl
      by false h = absurd (cc)
  any-get (z ∷ xs) (suc k) x at e = by (is z) (any-get xs k x at e)
    where
      by : (b : Bool) → list_any is xs ≡ true → (b || list_any is xs) ≡ true
      by true rest = refl
      by false rest = rest
