-- The search for a closure has one end.
use Rattle.std.proofs.Common.{◌≡◌, ℕ, zero, suc, ◌<◌, ◌≤◌, Bool, true, ◌⊎◌, inl, inr, ⊎_elim, List, [], length, take, Result, Err, refl, sym, ap, subst, ◌∙◌, true≢false, arith, length-append, eq-or-lt_of_le}
use Rattle.std.specs.Result.{is_ok, result_unwrap_or}
use Rattle.std.proofs.lemmas.Bool.{cases_lt}
use Rattle.std.proofs.lemmas.List.{take-append-le}
use Rattle.indexmap.specs.IndexSet.{insert_all}
use Rattle.cv_fix.specs.Closure.{given_at, found, IsSoFar, IsClosure, IsAsked, Refuses, Exceeds}
use Rattle.cv_fix.specs.declared.closure.CloseFault.{CloseFault}
use Rattle.cv_fix.specs.declared.closure.CloseFault.TheVariants.{Stop, Over, Memory}
use Rattle.cv_fix.proofs.Ends.{IsEnd}
use Rattle.cv_fix.proofs.SoFar.{found-suc, found-extends}

module _ {T S : Type 0} (follows : List T → Result (List T) S) (eq : T → T → Bool) (same : (x : T) → eq x x ≡ true) (starts : List T) where
  -- what was found when the item at place k is asked begins the list
  take-found : (a : List T) (j k m : ℕ) → IsSoFar follows eq starts a m → k ≤ m → j ≤ length (found follows eq starts a k) → take j a ≡ take j (found follows eq starts a k)
  take-found a j k m so h l =
      let w = found-extends follows eq starts same a k m h in
      ap (take j) (so.order ∙ w.1) ∙ take-append-le j (found follows eq starts a k) w.0 l

  longest : (a : List T) (k m : ℕ) → IsSoFar follows eq starts a m → k ≤ m → length (found follows eq starts a k) ≤ length a
  longest a k m so h =
      let w = found-extends follows eq starts same a k m h in
      omega (arith, ap length (so.order ∙ w.1), length-append (found follows eq starts a k) w.0)

  -- each item that was asked, and the one that is asked next, was found by then
  reached : (limit : ℕ) (a : List T) (k m : ℕ) → IsAsked follows eq starts limit a m → k ≤ m → k < length (found follows eq starts a k)
  reached limit a k m asked h =
      ⊎_elim
      (λ (e : k ≡ m). subst (λ j. j < length (found follows eq starts a j)) (sym e) (subst (λ l. m < length l) asked.so_far.order asked.next))
      (λ (l : k < m). asked.so_far.known k l)
      (eq-or-lt_of_le h)

  -- Two searches go the same way as far as both go.
  module _ (a b : List T) (m n : ℕ) (one : IsSoFar follows eq starts a m) (two : IsSoFar follows eq starts b n) where
    front : (k : ℕ) → k ≤ m → k ≤ n → found follows eq starts a k ≡ found follows eq starts b k → k < length (found follows eq starts a k) → take (suc k) a ≡ take (suc k) b
    front k h l e more =
        let longer : suc k ≤ length (found follows eq starts b k) = omega (arith, ap length e) in
        take-found a (suc k) k m one h (omega (arith, more)) ∙ ap (take (suc k)) e ∙ sym (take-found b (suc k) k n two l longer)

    given_alike : (k : ℕ) → take (suc k) a ≡ take (suc k) b → given_at follows a k ≡ given_at follows b k
    given_alike k e = ap (λ l. result_unwrap_or (follows l) []) e

    found_more : (k : ℕ) → found follows eq starts a k ≡ found follows eq starts b k → take (suc k) a ≡ take (suc k) b → found follows eq starts a (suc k) ≡ found follows eq starts b (suc k)
    found_more k e t = found-suc follows eq starts a k ∙ (λ i. insert_all eq (e i) (given_alike k t i)) ∙ sym (found-suc follows eq starts b k)

    alike : (k : ℕ) → k ≤ m → k ≤ n → found follows eq starts a k ≡ found follows eq starts b k
    alike zero h l = refl
    alike (suc k) h l =
        let e = alike k (omega arith) (omega arith) in
        found_more k e (front k (omega arith) (omega arith) e (one.known k (omega arith)))

  -- there is one closure
  pub one_closure : (a b : List T) → IsClosure follows eq starts a → IsClosure follows eq starts b → a ≡ b
  one_closure a b one two =
      ⊎_elim
      (λ (h : length a < length b). shorter a b one two (omega arith))
      (λ (h : length b ≤ length a). sym (shorter b a two one h))
      (cases_lt (length a) (length b))
    where
      shorter : (a b : List T) → IsClosure follows eq starts a → IsClosure follows eq starts b → length a ≤ length b → a ≡ b
      shorter a b one two h =
          let e = alike a b (length a) (length b) one two (length a) (omega arith) h in
          ⊎_elim
          (λ (q : length a ≡ length b). one.order ∙ e ∙ ap (found follows eq starts b) q ∙ sym two.order)
          (λ (l : length a < length b). absurd (omega (arith, two.known (length a) l, ap length e, ap length one.order)))
          (eq-or-lt_of_le h)

  ok_err : (xs ys : List T) (stop : S) → xs ≡ ys → is_ok (follows xs) ≡ true → follows ys ≡ Err stop → ⊥
  ok_err xs ys stop e ok err = true≢false (sym ok ∙ ap (λ l. is_ok (follows l)) e ∙ ap is_ok err)

  module _ (limit : ℕ) where
    -- an item that was asked did not refuse
    not_asked : (a b : List T) (m n : ℕ) (stop : S) → IsSoFar follows eq starts a m → IsAsked follows eq starts limit b n → n < m → follows (take (suc n) b) ≡ Err stop → ⊥
    not_asked a b m n stop one asked h err =
        let e = alike a b m n one asked.so_far n (omega arith) (omega arith) in
        ok_err (take (suc n) a) (take (suc n) b) stop (front a b m n one asked.so_far n (omega arith) (omega arith) e (one.known n h)) (one.accepted n h) err

    -- and gave no item beyond the limit
    not_beyond : (a b : List T) (m n : ℕ) → IsSoFar follows eq starts a m → length a ≤ limit → IsAsked follows eq starts limit b n → n < m → limit < length (found follows eq starts b (suc n)) → ⊥
    not_beyond a b m n one room asked h beyond =
        let e = alike a b m n one asked.so_far n (omega arith) (omega arith) in
        let t = front a b m n one asked.so_far n (omega arith) (omega arith) e (one.known n h) in
        let more = found_more a b m n one asked.so_far n e t in
        let most = longest a (suc n) m one (omega arith) in
        omega (arith, ap length more)

    -- a closure leaves no item to be asked
    not_left : (a b : List T) (n : ℕ) → IsClosure follows eq starts a → IsAsked follows eq starts limit b n → length a ≤ n → ⊥
    not_left a b n closure asked h =
        let e = alike a b (length a) n closure asked.so_far (length a) (omega arith) h in
        let more = reached limit b (length a) n asked h in
        omega (arith, ap length e, ap length closure.order)

    pub closure-Refuses : (a : List T) (n : ℕ) (stop : S) → IsClosure follows eq starts a → Refuses follows eq starts limit n stop → ⊥
    closure-Refuses a n stop closure r =
        ⊎_elim (λ (h : n < length a). not_asked a r.items (length a) n stop closure r.asked h r.refused) (λ (h : length a ≤ n). not_left a r.items n closure r.asked h) (cases_lt n (length a))

    pub closure-Exceeds : (a : List T) (n : ℕ) → IsClosure follows eq starts a → length a ≤ limit → Exceeds follows eq starts limit n → ⊥
    closure-Exceeds a n closure room x =
        ⊎_elim (λ (h : n < length a). not_beyond a x.items (length a) n closure room x.asked h x.beyond) (λ (h : length a ≤ n). not_left a x.items n closure x.asked h) (cases_lt n (length a))

    -- of two numbers, one is less or they are one
    three : (m n : ℕ) {P : Type 0} → (m < n → P) → (n < m → P) → (m ≡ n → P) → P
    three m n {P} less more same = ⊎_elim less (λ (h : n ≤ m). ⊎_elim (λ (e : n ≡ m). same (sym e)) more (eq-or-lt_of_le h)) (cases_lt m n)

    -- where both ask the item at place n, they ask the same
    asked_alike : (a b : List T) (n : ℕ) → IsAsked follows eq starts limit a n → IsAsked follows eq starts limit b n → take (suc n) a ≡ take (suc n) b
    asked_alike a b n one two =
        let e = alike a b n n one.so_far two.so_far n (omega arith) (omega arith) in
        front a b n n one.so_far two.so_far n (omega arith) (omega arith) e (reached limit a n n one (omega arith))

    one_stop : (m n : ℕ) (s t : S) → Refuses follows eq starts limit m s → Refuses follows eq starts limit n t → s ≡ t
    one_stop m n s t a b =
        three m n
        (λ (h : m < n). absurd (not_asked b.items a.items n m s b.asked.so_far a.asked h a.refused))
        (λ (h : n < m). absurd (not_asked a.items b.items m n t a.asked.so_far b.asked h b.refused))
        (λ (e : m ≡ n). here (subst (λ k. Refuses follows eq starts limit k s) e a))
      where
        here : Refuses follows eq starts limit n s → s ≡ t
        here c =
            let both : Path (Result (List T) S) (Err s) (Err t) = sym c.refused ∙ ap follows (asked_alike c.items b.items n c.asked b.asked) ∙ b.refused in
            cc

    one_place : (m n : ℕ) → Exceeds follows eq starts limit m → Exceeds follows eq starts limit n → m ≡ n
    one_place m n a b =
        three m n
        (λ (h : m < n). absurd (not_beyond b.items a.items n m b.asked.so_far b.asked.room a.asked h a.beyond))
        (λ (h : n < m). absurd (not_beyond a.items b.items m n a.asked.so_far a.asked.room b.asked h b.beyond))
        (λ (e : m ≡ n). e)

    Refuses-Exceeds : (m n : ℕ) (stop : S) → Refuses follows eq starts limit m stop → Exceeds follows eq starts limit n → ⊥
    Refuses-Exceeds m n stop r x =
        three m n
        (λ (h : m < n). not_asked x.items r.items n m stop x.asked.so_far r.asked h r.refused)
        (λ (h : n < m). not_beyond r.items x.items m n r.asked.so_far r.asked.room x.asked h x.beyond)
        (λ (e : m ≡ n). here (subst (λ k. Refuses follows eq starts limit k stop) e r))
      where
        here : Refuses follows eq starts limit n stop → ⊥
        here s =
            let none : given_at follows x.items n ≡ [] = ap (λ l. result_unwrap_or l []) (ap follows (sym (asked_alike s.items x.items n s.asked x.asked)) ∙ s.refused) in
            let still : found follows eq starts x.items (suc n) ≡ x.items = found-suc follows eq starts x.items n ∙ ap (insert_all eq (found follows eq starts x.items n)) none ∙ sym x.asked.so_far.order in
            omega (arith, ap length still, x.beyond, x.asked.room)

    -- The search that ended with the fault `f` has no other end.
    module _ (before after : ℕ) (f : CloseFault S) (end : IsEnd follows eq starts limit before after f) where
      pub fault-closes : (a : List T) → IsClosure follows eq starts a → length a ≤ limit → f ≡ Memory
      fault-closes a closure room = by f end
        where
          by : (e : CloseFault S) → IsEnd follows eq starts limit before after e → e ≡ Memory
          by (Stop s) x = absurd (closure-Refuses a x.stop.0 s closure x.stop.1)
          by (Over n) x = absurd (closure-Exceeds a n closure room x.over.0)
          by Memory x = refl

      pub fault-stops : (n : ℕ) (stop : S) → Refuses follows eq starts limit n stop → (f ≡ Stop stop) ⊎ (f ≡ Memory)
      fault-stops n stop was = by f end
        where
          by : (e : CloseFault S) → IsEnd follows eq starts limit before after e → (e ≡ Stop stop) ⊎ (e ≡ Memory)
          by (Stop s) x = inl (ap Stop (one_stop x.stop.0 n s stop x.stop.1 was))
          by (Over m) x = absurd (Refuses-Exceeds n m stop was x.over.0)
          by Memory x = inr refl

      pub fault-exceeds : (n : ℕ) → Exceeds follows eq starts limit n → (f ≡ Over n) ⊎ (f ≡ Memory)
      fault-exceeds n was = by f end
        where
          by : (e : CloseFault S) → IsEnd follows eq starts limit before after e → (e ≡ Over n) ⊎ (e ≡ Memory)
          by (Stop s) x = absurd (Refuses-Exceeds x.stop.0 n s x.stop.1 was)
          by (Over m) x = inl (ap Over (one_place m n x.over.0 was))
          by Memory x = inr refl
