-- Places of edges by context.
use Rattle.std.proofs.Common.{◌≡◌, ◌≢◌, not, position, AllPairs, one-add, nat_lt, ℕ, zero, suc, ◌+◌, ◌<◌, Bool, true, false, cond, ◌⊎◌, inl, inr, ⊎_elim, List, [], ◌∷◌, ◌++◌, length, get_or, Contains, Some, None, slice_get, arith, refl, sym, ap, subst, ◌∙◌, length-append, nat_eq, if◌then◌else◌}
use Rattle.std.specs.Cmp.{first_so, second_so}
use Rattle.std.specs.List.{list_any, position_or_len}
use Rattle.cv_fix.proofs.Inserted.{once-insert_all}
use Rattle.tabulation.proofs.Inserted.{both, itself_fact}
use Rattle.std.proofs.Math.ListN.{get_or-append}
use Rattle.std.proofs.lemmas.Bool.{ltb-true}
use Rattle.std.proofs.lemmas.Cmp.{nat_eq_equiv}
use Rattle.std.proofs.lemmas.List.Folds.{list_any_at}
use Rattle.std.proofs.lemmas.List.Elements.{Contains-append_cases, Contains-append_left, Contains-append_right, Contains-get_or}
use Rattle.std.proofs.lemmas.Option.{get_or_from_slice_get, slice_get-get_or, slice_get_within}
use Rattle.client_facts.proofs.Inserted.{single}
use Rattle.client_facts.specs.Counts.{is_of}
use Rattle.client_facts.specs.NameLists.{IsListed, at_class}
use Rattle.client_facts.specs.Same.{same_fact}
use Rattle.client_facts.specs.contracts.fact.FactPartialEq.TheImpl as facts
use Rattle.cv_fix.specs.Same.{same_number}
use Rattle.indexmap.specs.IndexSet.{insert_key}
use Rattle.tabulation.specs.Tables.{HasNone, IsPlaced, IsWithPlace, PlaceLists}
use Rattle.tabulation.specs.contracts.table.ContextPartialEq.TheImpl as contexts
use Rattle.tabulation.specs.declared.table.Context.{Context}

abbrev pub equals : Context → Context → Bool
equals = (contexts.ghosts).eq

-- contexts that `==` calls equal are one
pub same_context : (c d : Context) → equals c d ≡ true → c ≡ d
same_context c d h =
    let procedure = same_number c.procedure d.procedure (first_so (nat_eq c.procedure d.procedure) ((facts.ghosts).eq c.entry d.entry) h) in
    let entry = same_fact c.entry d.entry (second_so (nat_eq c.procedure d.procedure) ((facts.ghosts).eq c.entry d.entry) h) in
    λ i. record { procedure = procedure i; entry = entry i }

-- a context is equal to itself
itself : (c : Context) → equals c c ≡ true
itself c = both (nat_eq c.procedure c.procedure) ((facts.ghosts).eq c.entry c.entry) (nat_eq_equiv.refl c.procedure) (itself_fact c.entry)

pub once : (old new : List Context) (c : Context) → AllPairs (λ x y. x ≢ y) old → new ≡ insert_key equals old c → AllPairs (λ x y. x ≢ y) new
once old new c differ is = subst (AllPairs (λ x y. x ≢ y)) (sym is) (once-insert_all equals itself old (c ∷ []) differ)

-- the first that passes a test passes it
passes : (p : Context → Bool) (xs : List Context) (d : Context) → position_or_len p xs < length xs → p (get_or xs (position_or_len p xs) d) ≡ true
passes p [] d h = absurd (omega (arith, h))
passes p (x ∷ xs) d h = by (p x) refl h (λ below. passes p xs d below)
  where
    by : (b : Bool) → p x ≡ b → cond (not b) (1 + position_or_len p xs) 0 < length (x ∷ xs) →
        (position_or_len p xs < length xs → p (get_or xs (position_or_len p xs) d) ≡ true) →
        p (get_or (x ∷ xs) (cond (not b) (1 + position_or_len p xs) 0) d) ≡ true
    by true is within rest = is
    by false is within rest =
        subst (λ n. p (get_or (x ∷ xs) n d) ≡ true) (sym (one-add (position_or_len p xs))) (rest (omega (arith, within)))

-- two numbers of one context are one
one_number : (xs : List Context) (c : Context) (m n : ℕ) → AllPairs (λ x y. x ≢ y) xs → slice_get xs m ≡ Some c → slice_get xs n ≡ Some c → m ≡ n
one_number xs c m n differ one other = by (order m n)
  where
    at : (k : ℕ) → slice_get xs k ≡ Some c → get_or xs k c ≡ c
    at k is = get_or_from_slice_get xs k c c is

    by : ((m < n) ⊎ (n < m)) ⊎ (m ≡ n) → m ≡ n
    by (inl (inl below)) = absurd (differ m n c below (slice_get_within xs n c other) (at m one ∙ sym (at n other)))
    by (inl (inr above)) = absurd (differ n m c above (slice_get_within xs m c one) (at n other ∙ sym (at m one)))
    by (inr same) = same

    order : (a b : ℕ) → ((a < b) ⊎ (b < a)) ⊎ (a ≡ b)
    order zero zero = inr refl
    order zero (suc b) = inl (inl (omega arith))
    order (suc a) zero = inl (inr (omega arith))
    order (suc a) (suc b) = ⊎_elim (λ l. inl (⊎_elim (λ x. inl (omega (arith, x))) (λ y. inr (omega (arith, y))) l)) (λ e. inr (ap suc e)) (order a b)

module _ (t : PlaceLists) (c : Context) (differ : AllPairs (λ x y. x ≢ y) t.contexts) where
  -- the list at the first number whose context passes has the context's places
  pub all_found : (number : ℕ) (places : List ℕ) → position (equals c) t.contexts ≡ Some number → places ≡ at_class t.lists number → (p : ℕ) →
      IsPlaced t c p → Contains places p
  all_found number places found is p placed = by (nat_lt (position_or_len (equals c) t.contexts) (length t.contexts)) refl found
    where
      at : ℕ
      at = position_or_len (equals c) t.contexts

      one_of : Some at ≡ Some number → at ≡ number
      one_of e = cc

      by : (b : Bool) → nat_lt at (length t.contexts) ≡ b → cond b (Some at) None ≡ Some number → Contains places p
      by false h e = let clash : None ≡ Some number = e in cc
      by true h e =
          let first : at ≡ number = one_of e in
          let below : at < length t.contexts = ltb-true at (length t.contexts) h in
          let stored : slice_get t.contexts at ≡ Some c =
          slice_get-get_or t.contexts at c below
          ∙ ap Some (sym (same_context c (get_or t.contexts at c) (passes (equals c) t.contexts c below)))
          in
          let same : placed.number ≡ number = one_number t.contexts c placed.number at differ placed.context stored ∙ first in
          subst (λ l. Contains l p) (sym is) (subst (λ n. Contains (at_class t.lists n) p) same placed.place)

  pub none_found : list_any (equals c) t.contexts ≡ false → (p : ℕ) → IsPlaced t c p → ⊥
  none_found none p placed =
      let n : ℕ = placed.number in
      let at : get_or t.contexts n c ≡ c = get_or_from_slice_get t.contexts n c c placed.context in
      let has : list_any (equals c) t.contexts ≡ true =
      list_any_at (equals c) t.contexts n c (slice_get_within t.contexts n c placed.context) (ap (equals c) at ∙ itself c)
      in
      let clash : true ≡ false = sym has ∙ none in cc

pub has_none : (t : PlaceLists) → t.lists ≡ [] → HasNone t
has_none t empty p has =
    let in_none : Contains [] p = subst (λ l. Contains (at_class l has.number) p) empty has.place in
    absurd (omega (arith, in_none.1))

-- a context keeps its number
kept_number : (old : List Context) (c d : Context) (n : ℕ) → slice_get old n ≡ Some d → slice_get (insert_key equals old c) n ≡ Some d
kept_number old c d n is = by (list_any (equals c) old)
  where
    within : n < length old
    within = slice_get_within old n d is

    by : (b : Bool) → slice_get (cond b old (old ++ c ∷ [])) n ≡ Some d
    by true = is
    by false =
        slice_get-get_or (old ++ c ∷ []) n d (omega (arith, within, length-append old (c ∷ [])))
        ∙ ap Some (get_or-append old (c ∷ []) d n within ∙ get_or_from_slice_get old n d d is)

pub with_place : (old new : PlaceLists) (c : Context) (p number : ℕ) → new.contexts ≡ insert_key equals old.contexts c →
    slice_get new.contexts number ≡ Some c → IsListed (Some number) p old.lists new.lists → IsWithPlace old c p new
with_place old new c p number inserted there listed = record {
  kept = λ d q placed. record {
    number = placed.number;
    context = subst (λ l. slice_get l placed.number ≡ Some d) (sym inserted) (kept_number old.contexts c d placed.number placed.context);
    place = subst (λ l. Contains l q) (sym (listed placed.number)) (Contains-append_left (at_class old.lists placed.number) (if is_of placed.number (Some number) then p ∷ [] else []) q placed.place);
  };
  added = record {
    number = number;
    context = there;
    place = subst (λ l. Contains l p) (sym (listed number)) (Contains-append_right (at_class old.lists number) (if is_of number (Some number) then p ∷ [] else []) p
        (subst (λ b. Contains (if b then p ∷ [] else []) p) (sym (nat_eq_equiv.refl number)) (Contains-get_or (p ∷ []) 0 p (omega arith))));
  };
  only = λ q has. ⊎_elim (λ before. inl (record { number = has.number; place = before })) (λ last. inr (this (is_of has.number (Some number)) q last))
      (Contains-append_cases (at_class old.lists has.number) (if is_of has.number (Some number) then p ∷ [] else []) q (subst (λ l. Contains l q) (listed has.number) has.place));
}
  where
    this : (b : Bool) (q : ℕ) → Contains (if b then p ∷ [] else []) q → q ≡ p
    this true q has = single p q has
    this false q has = absurd (omega (arith, has.1))
