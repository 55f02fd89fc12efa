-- The causes of what the search has found.
use Rattle.std.proofs.Common.{◌≡◌, ℕ, suc, ◌-◌, ◌<◌, ◌≤◌, Bool, true, ⊎_elim, List, [], ◌++◌, length, take, get_or, replicate, Contains, Option, Some, None, Result, Ok, refl, sym, ap, subst, ◌∙◌, arith, length-append}
use Rattle.std.specs.Result.{result_unwrap_or}
use Rattle.std.proofs.lemmas.Bool.{cases_lt}
use Rattle.std.proofs.lemmas.List.{get_or-replicate, get_or_append_left, get_or-append_right}
use Rattle.std.proofs.lemmas.List.Elements.{Contains-get_or}
use Rattle.indexmap.specs.IndexSet.{insert_all}
use Rattle.cv_fix.specs.Closure.{given_at, Gives, IsFirstGiver, IsCause, HaveCauses, IsSoFar}
use Rattle.cv_fix.specs.Known.{filled}
use Rattle.cv_fix.proofs.Filled.{length-filled, length-now}
use Rattle.cv_fix.proofs.Holds.{starts-found, given-found}
use Rattle.cv_fix.proofs.Inserted.{News, news, cases-insert_all}
use Rattle.cv_fix.proofs.SoFar.{given_at-append}

module _ {T S : Type 0} (follows : List T → Result (List T) S) (starts : List T) where
  -- later items change no cause
  Gives-append : (items more : List T) (n : ℕ) (x : T) → Gives follows items n x → Gives follows (items ++ more) n x
  Gives-append items more n x g = record {
    place = omega (arith, g.place, length-append items more);
    gives = subst (λ l. Contains l x) (sym (given_at-append follows items more n g.place)) g.gives;
  }

  Gives-front : (items more : List T) (n : ℕ) (x : T) → n < length items → Gives follows (items ++ more) n x → Gives follows items n x
  Gives-front items more n x h g = record { place = h; gives = subst (λ l. Contains l x) (given_at-append follows items more n h) g.gives }

  IsCause-append : (items more : List T) (m : ℕ) (x : T) (cause : Option ℕ) → IsCause follows starts items m x cause → IsCause follows starts (items ++ more) m x cause
  IsCause-append items more m x None why = why
  IsCause-append items more m x (Some n) why = (
    why.0,
    record {
      new = why.1.new;
      gives = Gives-append items more n x why.1.gives;
      first = λ k h g. why.1.first k h (Gives-front items more k x (omega (arith, why.1.gives.place)) g);
    },
  )

module _ {T S : Type 0} (follows : List T → Result (List T) S) (eq : T → T → Bool) (same : (x : T) → eq x x ≡ true) (exact : (x y : T) → eq x y ≡ true → x ≡ y) (starts : List T) where
  -- a start has no cause
  pub HaveCauses-starts : (items : List T) (causes : List (Option ℕ)) → items ≡ insert_all eq [] starts → causes ≡ filled None (length items) [] → HaveCauses follows starts items causes
  HaveCauses-starts items causes is fill = record {
    as_many = length-now None (length items) [] causes (omega arith) fill;
    each = λ m x c h. subst (IsCause follows starts items m (get_or items m x)) (sym (none m c h)) (a_start (get_or items m x) (Contains-get_or items m x h));
  }
    where
      none : (m : ℕ) (c : Option ℕ) → m < length items → get_or causes m c ≡ None
      none m c h = ap (λ l. get_or l m c) fill ∙ get_or-replicate (length items - 0) m None c (omega arith)

      a_start : (x : T) → Contains items x → Contains starts x
      a_start x has = ⊎_elim (λ (a : Contains [] x). absurd (omega (arith, a.1))) (λ b. b) (cases-insert_all eq same exact [] starts x (subst (λ l. Contains l x) is has))

  -- What the item at place n gives, and is new, has it as its cause.
  module _ (items xs : List T) (n : ℕ) (so : IsSoFar follows eq starts items n) (next : n < length items) (gives : follows (take (suc n) items) ≡ Ok xs) (w : News eq items xs) where
    given_here : given_at follows (items ++ w.more) n ≡ xs
    given_here = given_at-append follows items w.more n next ∙ ap (λ r. result_unwrap_or r []) gives

    IsFirstGiver-new : (x : T) → Contains xs x → ¬ Contains items x → IsFirstGiver follows starts (items ++ w.more) n x
    IsFirstGiver-new x has absent = record {
      new = λ s. absent (starts-found follows eq same exact starts items n x so s);
      gives = record { place = omega (arith, next, length-append items w.more); gives = subst (λ l. Contains l x) (sym given_here) has };
      first = λ k h g. absent (given-found follows eq same exact starts items k n x so h (Gives-front follows starts items w.more k x (omega arith) g).gives);
    }

    HaveCauses-news : (causes : List (Option ℕ)) → HaveCauses follows starts items causes → HaveCauses follows starts (items ++ w.more) (filled (Some n) (length (items ++ w.more)) causes)
    HaveCauses-news causes why = record {
      as_many = length-filled (Some n) (length (items ++ w.more)) causes (omega (arith, why.as_many, length-append items w.more));
      each = λ m x c h. ⊎_elim (λ (l : m < length items). older m x c l) (λ (l : length items ≤ m). newer m x c l h) (cases_lt m (length items));
    }
      where
        older : (m : ℕ) (x : T) (c : Option ℕ) → m < length items → IsCause follows starts (items ++ w.more) m (get_or (items ++ w.more) m x) (get_or (filled (Some n) (length (items ++ w.more)) causes) m c)
        older m x c l =
            let item = get_or_append_left items w.more x m l in
            let cause = get_or_append_left causes (replicate (length (items ++ w.more) - length causes) (Some n)) c m (omega (arith, why.as_many)) in
            rw (item, cause) (IsCause-append follows starts items w.more m (get_or items m x) (get_or causes m c) (why.each m x c l))

        newer : (m : ℕ) (x : T) (c : Option ℕ) → length items ≤ m → m < length (items ++ w.more) → IsCause follows starts (items ++ w.more) m (get_or (items ++ w.more) m x) (get_or (filled (Some n) (length (items ++ w.more)) causes) m c)
        newer m x c l h =
            let place : m - length items < length w.more = omega (arith, length-append items w.more) in
            let item = get_or-append_right items w.more (length items) m x refl l in
            let cause = get_or-append_right causes (replicate (length (items ++ w.more) - length causes) (Some n)) (length items) m c why.as_many l
            ∙ get_or-replicate (length (items ++ w.more) - length causes) (m - length items) (Some n) c (omega (arith, why.as_many)) in
            rw (item, cause) (omega (arith, next, l), IsFirstGiver-new (get_or w.more (m - length items) x) (w.given (m - length items) x place) (w.new (m - length items) x place))

  pub HaveCauses-more : (items new xs : List T) (causes newer : List (Option ℕ)) (n : ℕ) → IsSoFar follows eq starts items n → n < length items → follows (take (suc n) items) ≡ Ok xs → new ≡ insert_all eq items xs
      → HaveCauses follows starts items causes → newer ≡ filled (Some n) (length new) causes → HaveCauses follows starts new newer
  HaveCauses-more items new xs causes newer n so next gives is why fill =
      let w = news eq same items xs in
      let whole : items ++ w.more ≡ new = sym (is ∙ w.whole) in
      subst (HaveCauses follows starts new) (sym fill) (subst (λ l. HaveCauses follows starts l (filled (Some n) (length l) causes)) whole (HaveCauses-news items xs n so next gives w causes why))
