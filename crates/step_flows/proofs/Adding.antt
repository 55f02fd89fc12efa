-- Facts that are added to others, step by step.
use Rattle.std.proofs.Common.{ℕ, ◌+◌, ◌<◌, ◌≤◌, ◌≡◌, ◌⊎◌, inl, inr, ⊎_elim, List, [], ◌∷◌, Contains, length, get_or, take, sym, subst, arith}
use Rattle.std.proofs.lemmas.List.{take_all, take_more}
use Rattle.std.proofs.lemmas.List.Elements.{Contains-append_left, Contains-push, Contains-push_cases}
use Rattle.client_facts.specs.FactSets.{IsWith}
use Rattle.client_facts.specs.declared.fact.Fact.{Fact}
use Rattle.step_flows.specs.Adding.{Adds, IsBySome}

-- nothing is added where it is true of nothing
pub Adds-nothing : (R : Fact → Type 0) (old : List Fact) → ((f : Fact) → R f → ⊥) → Adds R old old
Adds-nothing R old never = record {
  kept = λ f h. h;
  added = λ f r. absurd (never f r);
  only = λ f h. inl h;
}

-- one fact
pub Adds-with : (R : Fact → Type 0) (fact : Fact) (old new : List Fact) → IsWith old fact new → ((f : Fact) → R f → f ≡ fact) → R fact → Adds R old new
Adds-with R fact old new w back here = record {
  kept = λ f h. (w f).1 (inl h);
  added = λ f r. (w f).1 (inr (back f r));
  only = λ f h. ⊎_elim (λ a. inl a) (λ e. inr (subst R (sym e) here)) ((w f).0 h);
}

pub Adds-same : (R Q : Fact → Type 0) (old new : List Fact) → ((f : Fact) → R f → Q f) → ((f : Fact) → Q f → R f) → Adds R old new → Adds Q old new
Adds-same R Q old new to from a = record {
  kept = a.kept;
  added = λ f q. a.added f (from f q);
  only = λ f h. ⊎_elim (λ o. inl o) (λ r. inr (to f r)) (a.only f h);
}

-- two in turn
pub Adds-both : (R Q S : Fact → Type 0) (old middle new : List Fact) → ((f : Fact) → R f → S f) → ((f : Fact) → Q f → S f) → ((f : Fact) → S f → R f ⊎ Q f)
    → Adds R old middle → Adds Q middle new → Adds S old new
Adds-both R Q S old middle new one other split a b = record {
  kept = λ f h. b.kept f (a.kept f h);
  added = λ f s. ⊎_elim (λ r. b.kept f (a.added f r)) (λ q. b.added f q) (split f s);
  only = λ f h. ⊎_elim (λ m. ⊎_elim (λ o. inl o) (λ r. inr (one f r)) (a.only f m)) (λ q. inr (other f q)) (b.only f h);
}

none_in : {X : Type 0} (x : X) → Contains [] x → ⊥
none_in x h = omega (arith, h.1)

-- a loop begins
pub Adds-none : {X : Type 0} (R : X → Fact → Type 0) (xs : List X) (old : List Fact) → Adds (IsBySome R (take 0 xs)) old old
Adds-none R xs old = Adds-nothing (IsBySome R (take 0 xs)) old (λ f r. none_in r.chosen r.among)

in_more : {X : Type 0} (xs : List X) (i : ℕ) (d x : X) → i < length xs → Contains (take i xs) x → Contains (take (i + 1) xs) x
in_more {X} xs i d x l h =
    let P : List X → Type 0 = λ v. Contains v x in
    subst P (sym (take_more xs i d l)) (Contains-append_left (take i xs) (get_or xs i d ∷ []) x h)

here_more : {X : Type 0} (xs : List X) (i : ℕ) (d : X) → i < length xs → Contains (take (i + 1) xs) (get_or xs i d)
here_more {X} xs i d l =
    let P : List X → Type 0 = λ v. Contains v (get_or xs i d) in
    subst P (sym (take_more xs i d l)) (Contains-push (take i xs) (get_or xs i d))

more_cases : {X : Type 0} (xs : List X) (i : ℕ) (d x : X) → i < length xs → Contains (take (i + 1) xs) x → Contains (take i xs) x ⊎ (get_or xs i d ≡ x)
more_cases {X} xs i d x l h =
    let P : List X → Type 0 = λ v. Contains v x in
    Contains-push_cases (take i xs) (get_or xs i d) x (subst P (take_more xs i d l) h)

-- it goes on
pub Adds-more : {X : Type 0} (R : X → Fact → Type 0) (xs : List X) (i : ℕ) (x : X) (old middle new : List Fact) → i < length xs → x ≡ get_or xs i x
    → Adds (IsBySome R (take i xs)) old middle → Adds (R x) middle new → Adds (IsBySome R (take (i + 1) xs)) old new
Adds-more {X} R xs i x old middle new l is a b =
    let P : X → Type 0 = λ v. Adds (R v) middle new in
    Adds-both (IsBySome R (take i xs)) (R (get_or xs i x)) (IsBySome R (take (i + 1) xs)) old middle new
    (λ f r. record { chosen = r.chosen; among = in_more xs i x r.chosen l r.among; true_of = r.true_of })
    (λ f r. record { chosen = get_or xs i x; among = here_more xs i x l; true_of = r })
    (λ f s. ⊎_elim
    (λ c. inl (record { chosen = s.chosen; among = c; true_of = s.true_of }))
    (λ e. inr (let Q : X → Type 0 = λ v. R v f in subst Q (sym e) s.true_of))
    (more_cases xs i x s.chosen l s.among))
    a (subst P is b)

-- and ends
pub Adds-all : {X : Type 0} (R : X → Fact → Type 0) (xs : List X) (i : ℕ) (old new : List Fact) → length xs ≤ i → Adds (IsBySome R (take i xs)) old new
    → Adds (IsBySome R xs) old new
Adds-all {X} R xs i old new l a =
    let P : List X → Type 0 = λ v. Adds (IsBySome R v) old new in
    subst P (take_all i xs l) a

-- all that was added to nothing
pub whole_from_Adds : (R : Fact → Type 0) (none facts all : List Fact) → none ≡ [] → all ≡ facts → Adds R none facts → (f : Fact)
    → (Contains all f → R f) × (R f → Contains all f)
whole_from_Adds R none facts all empty e a f =
    let P : List Fact → Type 0 = λ v. Contains v f in
    (λ h. ⊎_elim (λ n. absurd (none_in f (subst P empty n))) (λ r. r) (a.only f (subst P e h)), λ r. subst P (sym e) (a.added f r))
