-- The fault that is named is the first.
use Rattle.std.specs.Prelude.{◌≡◌, ◌⊎◌, false, List, [], ◌∷◌, Some, None}
use Rattle.std.specs.List.{AllByRecursion}
use Rattle.client_model.specs.Faults.{Fault, comes_before, first_of}
use Rattle.client_model.specs.Rules.{IsWellFormed, first_fault}
use Rattle.client_model.specs.Trees.{Client}
use Rattle.easl_model.specs.Form.{Form}

abbrev pub IsOneOf : Fault → List Fault → Type 0
IsOneOf f [] = ⊥
IsOneOf f (g ∷ rest) = (g ≡ f) ⊎ IsOneOf f rest

-- one of these faults, and none of them comes before it
pub record IsFirst (faults : List Fault) (f : Fault) : Type 0 where
  pub there : IsOneOf f faults
  pub least : AllByRecursion (λ g. comes_before g f ≡ false) faults

abbrev pub FirstIsLeast : Type 0
FirstIsLeast = (faults : List Fault) (f : Fault) → first_of faults ≡ Some f → IsFirst faults f

-- a client without a first fault breaks no rule
abbrev pub NoneIsWellFormed : Type 0
NoneIsWellFormed = (form : Form) (client : Client) → first_fault form client ≡ None → IsWellFormed form client
