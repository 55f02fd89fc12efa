-- The search, one item further.
use Rattle.std.proofs.Common.{◌≡◌, ℕ, zero, suc, ◌<◌, ◌≤◌, Bool, true, ⊎_elim, List, [], ◌++◌, length, take, Result, Ok, refl, sym, ap, subst, ◌∙◌, arith, append-nil, append_assoc, eq-or-lt_of_le}
use Rattle.std.specs.Result.{result_unwrap_or, is_ok, IsOk}
use Rattle.std.proofs.lemmas.List.{take-append-le}
use Rattle.std.proofs.lemmas.List.Sums.{fold-append}
use Rattle.indexmap.specs.IndexSet.{insert_key, insert_all}
use Rattle.cv_fix.specs.Closure.{given_at, given, found, IsSoFar, IsClosure}
use Rattle.cv_fix.proofs.Inserted.{news}

-- What items give does not depend on later ones.
module _ {T S : Type 0} (follows : List T → Result (List T) S) where
  pub follows-append : (items more : List T) (n : ℕ) → n < length items → follows (take (suc n) (items ++ more)) ≡ follows (take (suc n) items)
  follows-append items more n h = ap follows (take-append-le (suc n) items more (omega arith))

  pub given_at-append : (items more : List T) (n : ℕ) → n < length items → given_at follows (items ++ more) n ≡ given_at follows items n
  given_at-append items more n h = ap (λ r. result_unwrap_or r []) (follows-append items more n h)

  pub given-append : (items more : List T) (n : ℕ) → n ≤ length items → given follows (items ++ more) n ≡ given follows items n
  given-append items more zero h = refl
  given-append items more (suc n) h = λ i. given-append items more n (omega arith) i ++ given_at-append items more n (omega arith) i

module _ {T S : Type 0} (follows : List T → Result (List T) S) (eq : T → T → Bool) (starts : List T) where
  pub found-append : (items more : List T) (n : ℕ) → n ≤ length items → found follows eq starts (items ++ more) n ≡ found follows eq starts items n
  found-append items more n h = ap (λ l. insert_all eq [] (starts ++ l)) (given-append follows items more n h)

  -- one item more is asked
  pub found-suc : (items : List T) (n : ℕ) → found follows eq starts items (suc n) ≡ insert_all eq (found follows eq starts items n) (given_at follows items n)
  found-suc items n =
      ap (insert_all eq []) (sym (append_assoc starts (given follows items n) (given_at follows items n)))
      ∙ fold-append (insert_key eq) [] (starts ++ given follows items n) (given_at follows items n)

  -- what is found stays in front as more items are asked
  pub found-extends : (same : (x : T) → eq x x ≡ true) (items : List T) (k m : ℕ) → k ≤ m → (more : List T) × (found follows eq starts items m ≡ found follows eq starts items k ++ more)
  found-extends same items k zero h =
      let none : 0 ≡ k = omega arith in
      ([], ap (found follows eq starts items) none ∙ sym (append-nil (found follows eq starts items k)))
  found-extends same items k (suc m) h = ⊎_elim (λ (e : k ≡ suc m). here e) (λ (l : k < suc m). further (found-extends same items k m (omega arith))) (eq-or-lt_of_le h)
    where
      here : k ≡ suc m → (more : List T) × (found follows eq starts items (suc m) ≡ found follows eq starts items k ++ more)
      here e = ([], ap (found follows eq starts items) (sym e) ∙ sym (append-nil (found follows eq starts items k)))

      further : ((more : List T) × (found follows eq starts items m ≡ found follows eq starts items k ++ more)) → (more : List T) × (found follows eq starts items (suc m) ≡ found follows eq starts items k ++ more)
      further before =
          let w = news eq same (found follows eq starts items m) (given_at follows items m) in
          (before.0 ++ w.more, found-suc items m ∙ w.whole ∙ ap (λ l. l ++ w.more) before.1 ∙ append_assoc (found follows eq starts items k) before.0 w.more)

  -- before any item is asked
  pub IsSoFar-starts : (items : List T) → items ≡ insert_all eq [] starts → IsSoFar follows eq starts items 0
  IsSoFar-starts items is = record {
    order = is ∙ ap (insert_all eq []) (sym (append-nil starts));
    known = λ k h. absurd (omega arith);
    accepted = λ k h. absurd (omega arith);
  }

  -- what holds of each place below n, and of n, holds below suc n
  below_suc : (P : ℕ → Type 0) (n : ℕ) → ((k : ℕ) → k < n → P k) → P n → (k : ℕ) → k < suc n → P k
  below_suc P n below here k h =
      let at_most : k ≤ n = omega arith in
      ⊎_elim (λ (e : k ≡ n). subst P (sym e) here) (λ (l : k < n). below k l) (eq-or-lt_of_le at_most)

  -- the item at place n is asked, and gives xs
  pub IsSoFar-more : (same : (x : T) → eq x x ≡ true) (items new xs : List T) (n : ℕ) → IsSoFar follows eq starts items n → n < length items → follows (take (suc n) items) ≡ Ok xs → new ≡ insert_all eq items xs → IsSoFar follows eq starts new (suc n)
  IsSoFar-more same items new xs n so next gives is =
      let w = news eq same items xs in
      let whole : items ++ w.more ≡ new = sym (is ∙ w.whole) in
      subst (λ l. IsSoFar follows eq starts l (suc n)) whole (record {
        order = whole ∙ is ∙ ap (λ l. insert_all eq l xs) (so.order ∙ sym (found-append items w.more n (omega arith)))
            ∙ ap (insert_all eq (found follows eq starts (items ++ w.more) n)) (sym (given_here w.more))
            ∙ sym (found-suc (items ++ w.more) n);
        known = below_suc (λ k. k < length (found follows eq starts (items ++ w.more) k)) n (λ k h. known_before w.more k (omega arith) (so.known k h)) (known_before w.more n (omega arith) (subst (λ l. n < length l) so.order next));
        accepted = below_suc (λ k. IsOk (follows (take (suc k) (items ++ w.more)))) n (λ k h. accepted_before w.more k (omega arith) (so.accepted k h)) (accepted_before w.more n next (ap is_ok gives));
      })
    where
      given_here : (more : List T) → given_at follows (items ++ more) n ≡ xs
      given_here more = given_at-append follows items more n next ∙ ap (λ r. result_unwrap_or r []) gives

      known_before : (more : List T) (k : ℕ) → k ≤ length items → k < length (found follows eq starts items k) → k < length (found follows eq starts (items ++ more) k)
      known_before more k h l = rw (found-append items more k h) l

      accepted_before : (more : List T) (k : ℕ) → k < length items → IsOk (follows (take (suc k) items)) → IsOk (follows (take (suc k) (items ++ more)))
      accepted_before more k h ok = rw (follows-append follows items more k h) ok

  -- all items are asked
  pub IsClosure-end : (items : List T) (n : ℕ) → IsSoFar follows eq starts items n → n ≡ length items → IsClosure follows eq starts items
  IsClosure-end items n so end = subst (IsSoFar follows eq starts items) end so
