-- The closure of steady rules is least.
use Rattle.std.proofs.Common.{◌≡◌, ℕ, zero, suc, ◌+◌, ◌<◌, ◌≤◌, Bool, true, ⊎_elim, List, length, take, get_or, Contains, All, Result, sym, subst, ap, ◌∙◌, arith, add-one}
use Rattle.std.proofs.lemmas.List.{take_all, take-take, get_or_append_left}
use Rattle.std.proofs.lemmas.List.Elements.{All-nil, All-more, All-take, All-contains, Contains-get_or}
use Rattle.cv_fix.specs.Closure.{given_at, found, Gives, IsClosed, IsClosure}
use Rattle.cv_fix.specs.Least.{IsSteady, IsLeast}
use Rattle.cv_fix.proofs.Holds.{cases-found, IsClosed-closure, All-starts}
use Rattle.cv_fix.proofs.SoFar.{found-extends}

module _ {T S : Type 0} (follows : List T → Result (List T) S) (eq : T → T → Bool) (same : (x : T) → eq x x ≡ true) (exact : (x y : T) → eq x y ≡ true → x ≡ y) (starts items : List T) (closure : IsClosure follows eq starts items) where
  -- each item is found by the time that it is asked
  Contains-found : (n : ℕ) (d : T) → n < length items → Contains (found follows eq starts items n) (get_or items n d)
  Contains-found n d h =
      let w = found-extends follows eq starts same items n (length items) (omega arith) in
      let there = get_or_append_left (found follows eq starts items n) w.0 d n (closure.known n h) in
      subst (Contains (found follows eq starts items n)) (sym (ap (λ l. get_or l n d) (closure.order ∙ w.1) ∙ there)) (Contains-get_or (found follows eq starts items n) n d (closure.known n h))

  module _ (steady : IsSteady follows) (ys : List T) (holds : All (Contains ys) starts) (closed : IsClosed follows ys) where
    -- a list that holds the items before place n holds the item there
    held : (n : ℕ) (d : T) → n < length items → All (Contains ys) (take n items) → Contains ys (get_or items n d)
    held n d h front =
        ⊎_elim
        (λ (start : Contains starts (get_or items n d)). All-contains (Contains ys) starts (get_or items n d) holds start)
        (λ (g : (k : ℕ) × (k < n) × Contains (given_at follows items k) (get_or items n d)). given_before g.0 g.1 g.2)
        (cases-found follows eq same exact starts items n (get_or items n d) (Contains-found n d h))
      where
        given_before : (k : ℕ) → k < n → Contains (given_at follows items k) (get_or items n d) → Contains ys (get_or items n d)
        given_before k l has =
            let upto : All (Contains ys) (take (suc k) items) = subst (All (Contains ys)) (take-take (suc k) n items (omega arith)) (All-take (Contains ys) (suc k) (take n items) front) in
            ⊎_elim
            (λ (g : (m : ℕ) × Gives follows ys m (get_or items n d)). closed g.0 (get_or items n d) g.1)
            (λ (there : Contains ys (get_or items n d)). there)
            (steady items ys k (get_or items n d) (record { place = omega arith; gives = has }) upto)

    all_held : (n : ℕ) → n ≤ length items → All (Contains ys) (take n items)
    all_held zero h = All-nil (Contains ys)
    all_held (suc n) h = one_more (all_held n (omega arith))
      where
        one_more : All (Contains ys) (take n items) → All (Contains ys) (take (suc n) items)
        one_more front = λ k d.
            let all : All (Contains ys) (take (n + 1) items) = All-more (Contains ys) items n d (omega arith) front (held n d (omega arith) front) in
            (rw add-one at all) k d

  pub IsLeast-closure : IsSteady follows → IsLeast follows starts items
  IsLeast-closure steady = record {
    holds = All-starts follows eq same exact starts items closure;
    closed = IsClosed-closure follows eq same exact starts items closure;
    least = λ ys holds closed. rw (← take_all (length items) items (omega arith)) (all_held steady ys holds closed (length items) (omega arith));
  }
