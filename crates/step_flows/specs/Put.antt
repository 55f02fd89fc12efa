-- Names for the variables of a disjunct.
use Rattle.std.specs.Prelude.{◌≡◌, ℕ, zero, suc, ◌<◌, ◌/◌, ◌%◌, ◌==◌, Bool, List, Option, Some, None, slice_get}
use Rattle.std.specs.List.{AllZip}
use Rattle.access_paths.specs.declared.term.Var.{Var}
use Rattle.client_facts.specs.Flows.{IsPut}
use Rattle.client_facts.specs.declared.fact.Fact.{Fact}
use Rattle.method_abstraction.specs.declared.entry.Disjunct.{Disjunct}

-- these are the names of the variables, in their order
abbrev pub AreNamed : List (Option ℕ) → List Var → List ℕ → Type 0
AreNamed names vars codes = AllZip (λ v code. slice_get names v.0 ≡ Some (Some code)) vars codes

-- the bit of this number is set
abbrev pub has_position : ℕ → ℕ → Bool
has_position results zero = results % 2 == 1
has_position results (suc n) = has_position (results / 2) n

-- the name that stands in the list of names where the variable x(position + 1) stands among the variables
pub record IsKnown (vars : List Var) (names : List ℕ) (position code : ℕ) : Type 0 where
  pub early : position < 3
  pub place : ℕ
  pub var : Var
  pub var_is : slice_get vars place ≡ Some var
  pub number : var.0 ≡ position
  pub named : slice_get names place ≡ Some code

-- if it is known what stands there, it is this name
abbrev pub IsKnownAs : Option (Option ℕ) → ℕ → Type 0
IsKnownAs None code = Unit {0}
IsKnownAs (Some only) code = only ≡ Some code

-- the disjunct gives this fact with the names, and no other
pub record IsOnlyPut (names : List (Option ℕ)) (disjunct : Disjunct) (d : Fact) : Type 0 where
  pub gives : IsPut names disjunct d
  pub only : (e : Fact) → IsPut names disjunct e → e ≡ d
