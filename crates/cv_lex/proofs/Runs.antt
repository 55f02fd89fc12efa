-- The front of a list that passes a test, and what comes behind it.
use Rattle.std.proofs.Common.{◌≡◌, ℕ, suc, ◌+◌, Bool, true, false, inl, inr, List, [], ◌∷◌, ◌++◌, take, drop, IsTrue, refl, sym, ◌∙◌, subst, one-add}
use Rattle.std.specs.List.{AllByRecursion, prefix_len}
use Rattle.std.proofs.lemmas.Bool.{cases_Bool, cond-true, cond-false, both_ways}

abbrev pub AllPassing : (ℕ → Bool) → List ℕ → Type 0
AllPassing p cs = AllByRecursion (λ c. IsTrue (p c)) cs

-- the test fails at the first of these, if there is one
abbrev pub Stops : (ℕ → Bool) → List ℕ → Type 0
Stops p [] = Unit {0}
Stops p (c ∷ cs) = p c ≡ false

prefix_yes : (p : ℕ → Bool) (c : ℕ) (cs : List ℕ) → p c ≡ true → prefix_len p (c ∷ cs) ≡ suc (prefix_len p cs)
prefix_yes p c cs h = cond-true (p c) (1 + prefix_len p cs) 0 h ∙ one-add (prefix_len p cs)

prefix_no : (p : ℕ → Bool) (c : ℕ) (cs : List ℕ) → p c ≡ false → prefix_len p (c ∷ cs) ≡ 0
prefix_no p c cs h = cond-false (p c) (1 + prefix_len p cs) 0 h

pub passes : (p : ℕ → Bool) (cs : List ℕ) → AllPassing p (take (prefix_len p cs) cs)
passes p [] = tt
passes p (c ∷ cs) = elim (cases_Bool (p c)) [
  | inl h ↦ subst (λ n. AllPassing p (take n (c ∷ cs))) (sym (prefix_yes p c cs h)) (h, passes p cs)
  | inr h ↦ subst (λ n. AllPassing p (take n (c ∷ cs))) (sym (prefix_no p c cs h)) tt
]

pub stops : (p : ℕ → Bool) (cs : List ℕ) → Stops p (drop (prefix_len p cs) cs)
stops p [] = tt
stops p (c ∷ cs) = elim (cases_Bool (p c)) [
  | inl h ↦ subst (λ n. Stops p (drop n (c ∷ cs))) (sym (prefix_yes p c cs h)) (stops p cs)
  | inr h ↦ subst (λ n. Stops p (drop n (c ∷ cs))) (sym (prefix_no p c cs h)) h
]

-- what passes goes on no further
pub no_further : (p : ℕ → Bool) (used more after rest : List ℕ) → rest ≡ more ++ after → Stops p rest → AllPassing p (used ++ more) → more ≡ []
no_further p [] [] after rest e s h = refl
no_further p [] (m ∷ more) after rest e s h = absurd (both_ways (p m) (subst (Stops p) e s) h.0)
no_further p (c ∷ used) more after rest e s h = no_further p used more after rest e s h.1
