-- What the search has found holds the starts and what was given.
use Rattle.std.proofs.Common.{◌≡◌, ◌≢◌, ℕ, zero, suc, ◌<◌, ◌≤◌, Bool, true, ◌⊎◌, inl, inr, ⊎_elim, List, [], ◌++◌, length, get_or, Contains, All, AllPairs, Result, sym, subst, arith, eq-or-lt_of_le}
use Rattle.std.proofs.lemmas.List.Elements.{Contains-get_or, Contains-append_left, Contains-append_right, Contains-append_cases}
use Rattle.cv_fix.specs.Closure.{given_at, given, found, IsClosed, IsSoFar, IsClosure}
use Rattle.cv_fix.proofs.Inserted.{once-insert_all, Contains-insert_all, cases-insert_all}

module _ {T S : Type 0} (follows : List T → Result (List T) S) where
  -- what an item gives is given
  pub Contains-given : (items : List T) (k n : ℕ) (x : T) → k < n → Contains (given_at follows items k) x → Contains (given follows items n) x
  Contains-given items k zero x h has = absurd (omega arith)
  Contains-given items k (suc n) x h has =
      let at_most : k ≤ n = omega arith in
      ⊎_elim
      (λ (e : k ≡ n). Contains-append_right (given follows items n) (given_at follows items n) x (subst (λ j. Contains (given_at follows items j) x) e has))
      (λ (l : k < n). Contains-append_left (given follows items n) (given_at follows items n) x (Contains-given items k n x l has))
      (eq-or-lt_of_le at_most)

  -- and only that
  pub giver-given : (items : List T) (n : ℕ) (x : T) → Contains (given follows items n) x → (k : ℕ) × (k < n) × Contains (given_at follows items k) x
  giver-given items zero x has = absurd (omega (arith, has.1))
  giver-given items (suc n) x has =
      ⊎_elim
      (λ (before : Contains (given follows items n) x). let g = giver-given items n x before in (g.0, omega (arith, g.1), g.2))
      (λ (last : Contains (given_at follows items n) x). (n, omega arith, last))
      (Contains-append_cases (given follows items n) (given_at follows items n) x has)

module _ {T S : Type 0} (follows : List T → Result (List T) S) (eq : T → T → Bool) (same : (x : T) → eq x x ≡ true) (exact : (x y : T) → eq x y ≡ true → x ≡ y) (starts : List T) where
  -- what is found is a start or given
  pub cases-found : (items : List T) (n : ℕ) (x : T) → Contains (found follows eq starts items n) x → Contains starts x ⊎ ((k : ℕ) × (k < n) × Contains (given_at follows items k) x)
  cases-found items n x has =
      ⊎_elim
      (λ (none : Contains [] x). absurd (omega (arith, none.1)))
      (λ (put : Contains (starts ++ given follows items n) x). ⊎_elim (λ a. inl a) (λ b. inr (giver-given follows items n x b)) (Contains-append_cases starts (given follows items n) x put))
      (cases-insert_all eq same exact [] (starts ++ given follows items n) x has)

  pub starts-found : (items : List T) (n : ℕ) (x : T) → IsSoFar follows eq starts items n → Contains starts x → Contains items x
  starts-found items n x so has =
      subst (λ l. Contains l x) (sym so.order) (Contains-insert_all eq same exact [] (starts ++ given follows items n) x (Contains-append_left starts (given follows items n) x has))

  pub given-found : (items : List T) (k n : ℕ) (x : T) → IsSoFar follows eq starts items n → k < n → Contains (given_at follows items k) x → Contains items x
  given-found items k n x so h has =
      subst (λ l. Contains l x) (sym so.order) (Contains-insert_all eq same exact [] (starts ++ given follows items n) x (Contains-append_right starts (given follows items n) x (Contains-given follows items k n x h has)))

  -- A closure is closed, holds the starts, and has no item twice.
  pub IsClosed-closure : (items : List T) → IsClosure follows eq starts items → IsClosed follows items
  IsClosed-closure items so n x g = given-found items n (length items) x so g.place g.gives

  pub All-starts : (items : List T) → IsClosure follows eq starts items → All (Contains items) starts
  All-starts items so k d h = starts-found items (length items) (get_or starts k d) so (Contains-get_or starts k d h)

  pub once-closure : (items : List T) → IsClosure follows eq starts items → AllPairs (λ x y. x ≢ y) items
  once-closure items so = subst (AllPairs (λ x y. x ≢ y)) (sym so.order) (once-insert_all eq same [] (starts ++ given follows items (length items)) (λ i j d h l. absurd (omega arith)))
