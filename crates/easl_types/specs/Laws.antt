-- Which fault the check answers: the least one of the first pass that finds any.
use Rattle.std.specs.Prelude.{◌≡◌, ◌⊎◌, List, [], ◌∷◌, Option, Some, None, false}
use Rattle.std.specs.List.{AllByRecursion, Contains}
use Rattle.easl_model.specs.{IsWellFormed, faults_of_bodies, faults_of_cycles, faults_of_headers, faults_of_lengths, first_fault}
use Rattle.easl_model.specs.Faults.{comes_before}
use Rattle.easl_model.specs.declared.fault.Fault.{Fault}
use Rattle.easl_model.specs.declared.tree.Spec.{Spec}

-- the fault is one of these, and none of these comes before it in the text, or at its place has a lower number
abbrev pub IsLeastOf : List Fault → Fault → Type 0
IsLeastOf faults f = Contains faults f × AllByRecursion (λ g. comes_before g f ≡ false) faults

-- the least one of the first of these lists that has any
abbrev pub IsLeastOfFirst : List (List Fault) → Fault → Type 0
IsLeastOfFirst [] f = ⊥
IsLeastOfFirst (faults ∷ later) f = IsLeastOf faults f ⊎ ((faults ≡ []) × IsLeastOfFirst later f)

-- the faults of each pass, pass by pass
abbrev pub passes : Spec → List (List Fault)
passes spec = faults_of_headers spec ∷ faults_of_bodies spec ∷ faults_of_cycles spec ∷ faults_of_lengths spec ∷ []

abbrev pub FirstIsLeast : Type 0
FirstIsLeast = (spec : Spec) (f : Fault) → first_fault spec ≡ Some f → IsLeastOfFirst (passes spec) f

-- where no fault is found, no rule is broken
abbrev pub NoneIsWellFormed : Type 0
NoneIsWellFormed = (spec : Spec) → first_fault spec ≡ None → IsWellFormed spec
