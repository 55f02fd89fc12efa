-- The first elements of a list.
use Rattle.std.proofs.Common.{◌≡◌, ℕ, ◌+◌, ◌<◌, ◌≤◌, ◌⊎◌, inr, inl, ⊎_elim, List, [], ◌∷◌, ◌++◌, length, take, drop, get_or, Contains, arith, ap, sym, subst, ◌∙◌, get_or-take, length-take, length-take-le, take-append-drop}
use Rattle.std.proofs.lemmas.List.{take_more}
use Rattle.std.proofs.lemmas.List.Elements.{Contains-append_cases, Contains-append_left, Contains-append_right, Contains-get_or}
use Rattle.client_facts.proofs.Inserted.{single}

module _ {A : Type 0} (xs : List A) where
  -- nothing is among none
  pub among_none : (y : A) → ¬ Contains (take 0 xs) y
  among_none y has = absurd (omega (arith, has.1, length-take 0 xs))

  -- an element of the first ones is one of the list
  pub among_all : (n : ℕ) (y : A) → Contains (take n xs) y → Contains xs y
  among_all n y has = subst (λ l. Contains l y) (take-append-drop n xs) (Contains-append_left (take n xs) (drop n xs) y has)

  -- and of more of the first ones
  pub among_more : (m n : ℕ) (y : A) → m ≤ n → n ≤ length xs → Contains (take m xs) y → Contains (take n xs) y
  among_more m n y h within has =
      let below : has.0 < m = omega (arith, has.1, length-take-le m xs) in
      (has.0, omega (arith, length-take-le n xs, has.1, length-take-le m xs), get_or-take n xs has.0 y (omega arith) ∙ sym (get_or-take m xs has.0 y below) ∙ has.2)

  module _ (i : ℕ) (x : A) (h : i < length xs) (is : x ≡ get_or xs i x) where
    taken : take (i + 1) xs ≡ take i xs ++ x ∷ []
    taken = take_more xs i x h ∙ ap (λ y. take i xs ++ y ∷ []) (sym is)

    -- one of the first i + 1 is one of the first i, or the one at i
    pub among_cases : (y : A) → Contains (take (i + 1) xs) y → Contains (take i xs) y ⊎ (y ≡ x)
    among_cases y has =
        ⊎_elim (λ old. inl old) (λ last. inr (single x y last)) (Contains-append_cases (take i xs) (x ∷ []) y (subst (λ l. Contains l y) taken has))

    pub among_early : (y : A) → Contains (take i xs) y → Contains (take (i + 1) xs) y
    among_early y has = subst (λ l. Contains l y) (sym taken) (Contains-append_left (take i xs) (x ∷ []) y has)

    pub among_last : Contains (take (i + 1) xs) x
    among_last =
        subst (λ l. Contains l x) (sym taken) (Contains-append_right (take i xs) (x ∷ []) x (Contains-get_or (x ∷ []) 0 x (omega arith)))
