-- The fact that a disjunct gives with names, and that there is no other.
use Rattle.std.proofs.Common.{ℕ, ◌≡◌, List, [], ◌∷◌, Option, Some, None, MatchOption, slice_get, ap, sym, refl, subst, ◌∙◌}
use Rattle.access_paths.specs.declared.term.Var.{Var}
use Rattle.client_facts.specs.FactSets.{IsWith}
use Rattle.client_facts.specs.Flows.{IsPut}
use Rattle.client_facts.specs.declared.fact.Fact.{Fact}
use Rattle.client_facts.specs.declared.fact.Fact.TheVariants.{Of}
use Rattle.method_abstraction.specs.declared.entry.Disjunct.{Disjunct}
use Rattle.method_abstraction.specs.declared.entry.Disjunct.TheVariants as disjunct
use Rattle.step_flows.proofs.Adding.{Adds-nothing, Adds-with}
use Rattle.step_flows.specs.Adding.{Adds}
use Rattle.step_flows.specs.Put.{AreNamed, IsOnlyPut}

some_twice : (o : Option (Option ℕ)) (a b : ℕ) → o ≡ Some (Some a) → o ≡ Some (Some b) → a ≡ b
some_twice o a b e f = cc

pub AreNamed-only : (names : List (Option ℕ)) (vars : List Var) (xs ys : List ℕ) → AreNamed names vars xs → AreNamed names vars ys → xs ≡ ys
AreNamed-only names [] [] [] h k = refl
AreNamed-only names [] [] (y ∷ ys) h k = absurd k
AreNamed-only names [] (x ∷ xs) ys h k = absurd h
AreNamed-only names (v ∷ vars) [] ys h k = absurd h
AreNamed-only names (v ∷ vars) (x ∷ xs) [] h k = absurd k
AreNamed-only names (v ∷ vars) (x ∷ xs) (y ∷ ys) h k =
    let first = some_twice (slice_get names v.0) x y h.0 k.0 in
    let rest = AreNamed-only names vars xs ys h.1 k.1 in
    cc

pub IsOnlyPut-of : (names : List (Option ℕ)) (family : ℕ) (vars : List Var) (codes : List ℕ) → AreNamed names vars codes
    → IsOnlyPut names (disjunct.Of family vars) (Of family codes)
IsOnlyPut-of names family vars codes h = record {
  gives = (codes, refl, h);
  only = λ e put. put.1 ∙ ap (Of family) (AreNamed-only names vars put.0 codes put.2 h);
}

-- what is found for the variables is the only fact
pub put_some : (names : List (Option ℕ)) (d : Disjunct) (family : ℕ) (vars shown : List Var) (o : Option (List ℕ)) (codes : List ℕ)
    → d ≡ disjunct.Of family vars → shown ≡ vars → o ≡ Some codes
    → MatchOption o ((xs : List ℕ) → AreNamed names shown xs → ⊥) (λ made. AreNamed names shown made) → IsOnlyPut names d (Of family codes)
put_some names d family vars shown o codes d_is vars_are is m =
    let P : Option (List ℕ) → Type 0 = λ v. MatchOption v ((xs : List ℕ) → AreNamed names shown xs → ⊥) (λ made. AreNamed names shown made) in
    let Q : List Var → Type 0 = λ v. AreNamed names v codes in
    let R : Disjunct → Type 0 = λ v. IsOnlyPut names v (Of family codes) in
    subst R (sym d_is) (IsOnlyPut-of names family vars codes (subst Q vars_are (subst P is m)))

pub none_put : (names : List (Option ℕ)) (d : Disjunct) (o : Option Fact) (old : List Fact) → o ≡ None
    → MatchOption o ((e : Fact) → IsPut names d e → ⊥) (λ made. IsOnlyPut names d made) → Adds (IsPut names d) old old
none_put names d o old is m =
    let P : Option Fact → Type 0 = λ v. MatchOption v ((e : Fact) → IsPut names d e → ⊥) (λ made. IsOnlyPut names d made) in
    Adds-nothing (IsPut names d) old (subst P is m)

pub one_put : (names : List (Option ℕ)) (d : Disjunct) (o : Option Fact) (fact : Fact) (old new : List Fact) → o ≡ Some fact
    → MatchOption o ((e : Fact) → IsPut names d e → ⊥) (λ made. IsOnlyPut names d made) → IsWith old fact new → Adds (IsPut names d) old new
one_put names d o fact old new is m w =
    let P : Option Fact → Type 0 = λ v. MatchOption v ((e : Fact) → IsPut names d e → ⊥) (λ made. IsOnlyPut names d made) in
    let only : IsOnlyPut names d fact = subst P is m in
    Adds-with (IsPut names d) fact old new w only.only only.gives
