-- Facts are found by trying all that may be wanted.
use Rattle.std.proofs.Common.{◌≡◌, ◌<◌, ◌≤◌, ◌+◌, ◌⊎◌, ℕ, Bool, true, false, List, [], inl, inr, ⊎_elim, get_or, length, take, refl, sym, ap, ◌∙◌, subst, arith}
use Rattle.std.specs.Prelude.{◌↔◌, Contains, Err, IfOk, IsTrue, Ok, Result}
use Rattle.std.proofs.lemmas.List.{take_all, take_more}
use Rattle.std.proofs.lemmas.List.Elements.{Contains-push_cases}
use Rattle.call_flows.specs.Found.{AddsWanted, AreAll, Finds, IsListed}
use Rattle.client_facts.specs.FactSets.{IsWith}
use Rattle.client_facts.specs.declared.fact.Fact.{Fact}
use Rattle.client_facts.specs.declared.fact.Fact.TheVariants.{Always, Of}

pub if_ok_then : {A E : Type 0} (r : Result A E) {P Q : A → Type 0} → ((a : A) → P a → Q a) → IfOk r P → IfOk r Q
if_ok_then (Ok a) f h = f a h
if_ok_then (Err e) f h = tt

none_in : {A : Type 0} (a : A) → Contains [] a → ⊥
none_in a here = omega (arith, here.1)

module _ (W : Fact → Type 0) (fact : Fact) where
  pub adds_nothing : (test : Bool) (old : List Fact) → (IsTrue test ↔ W fact) → test ≡ false → AddsWanted W fact old old
  adds_nothing test old tells not_so = record {
    kept = λ f h. h;
    added = λ w. absurd (never (tells.1 w));
    only = λ f h. inl h;
  }
    where
      never : test ≡ true → ⊥
      never so = cc

  pub adds_it : (test : Bool) (old new : List Fact) → (IsTrue test ↔ W fact) → test ≡ true → IsWith old fact new → AddsWanted W fact old new
  adds_it test old new tells so is = record {
    kept = λ f h. (is f).1 (inl h);
    added = λ w. (is fact).1 (inr refl);
    only = λ f h. ⊎_elim (λ was. inl was) (λ same. inr (subst W (sym same) (tells.0 so))) ((is f).0 h);
  }

module _ (W : Fact → Type 0) where
  -- what is always true is tried alone
  pub finds_always : (none facts : List Fact) → none ≡ [] → AddsWanted W Always none facts → Finds W (λ f. f ≡ Always) facts
  finds_always none facts empty adds = record {
    only = λ f h. ⊎_elim (λ was. absurd (none_in f (subst (λ l. Contains l f) empty was))) (λ w. w) (adds.only f h);
    all = λ f is w. subst (Contains facts) (sym is) (adds.added (subst W is w));
  }

  module _ (family : ℕ) (lists : List (List ℕ)) where
    pub finds_none : (none : List Fact) → none ≡ [] → Finds W (IsListed family (take 0 lists)) none
    finds_none none empty = record {
      only = λ f h. absurd (none_in f (subst (λ l. Contains l f) empty h));
      all = λ f tried w. absurd (none_in tried.0 tried.1);
    }

    more_cases : (n : ℕ) (d codes : List ℕ) → n < length lists → Contains (take (n + 1) lists) codes → Contains (take n lists) codes ⊎ (get_or lists n d ≡ codes)
    more_cases n d codes lt here = Contains-push_cases (take n lists) (get_or lists n d) codes (subst (λ l. Contains l codes) (take_more lists n d lt) here)

    pub finds_more : (n : ℕ) (d twin : List ℕ) (old new : List Fact) → n < length lists → twin ≡ get_or lists n d → Finds W (IsListed family (take n lists)) old →
        AddsWanted W (Of family twin) old new → Finds W (IsListed family (take (n + 1) lists)) new
    finds_more n d twin old new lt same was adds = record {
      only = λ f h. ⊎_elim (λ before. was.only f before) (λ w. w) (adds.only f h);
      all = λ f tried w.
          ⊎_elim (λ before. adds.kept f (was.all f (tried.0, before, tried.2) w))
          (λ now.
          let is : f ≡ Of family twin = tried.2 ∙ ap (Of family) (sym now ∙ sym same) in
          subst (Contains new) (sym is) (adds.added (subst W is w)))
          (more_cases n d tried.0 lt tried.1);
    }

    pub finds_all : (n : ℕ) (facts : List Fact) → length lists ≤ n → Finds W (IsListed family (take n lists)) facts → Finds W (IsListed family lists) facts
    finds_all n facts le finds = subst (λ l. Finds W (IsListed family l) facts) (take_all n lists le) finds

  -- all that is wanted is tried
  pub all_found : (Tried : Fact → Type 0) (facts : List Fact) → ((f : Fact) → W f → Tried f) → Finds W Tried facts → AreAll W facts
  all_found Tried facts tried finds = λ f. (finds.only f, λ w. finds.all f (tried f w) w)
