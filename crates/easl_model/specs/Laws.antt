-- Laws on the definitions.
use Rattle.easl_model.specs.CheckedForm.{form_of}
use Rattle.easl_model.specs.Checked.{IsInRange}
use Rattle.easl_model.specs.Nests.{ConstructorsNest}
use Rattle.easl_model.specs.Rules.{IsWellFormed}
use Rattle.easl_model.specs.TreeLimits.{IsWithinLimits}
use Rattle.easl_model.specs.TypedBodies.{IsTyped}
use Rattle.easl_model.specs.declared.tree.Spec.{Spec}

-- the checked form of a well-formed tree within the limits is in range
abbrev pub FormIsInRange : Type 0
FormIsInRange = (spec : Spec) → IsWellFormed spec → IsWithinLimits spec → IsInRange (form_of spec)

-- the checked form of a well-formed tree is typed
abbrev pub FormIsTyped : Type 0
FormIsTyped = (spec : Spec) → IsWellFormed spec → IsTyped (form_of spec)

-- its constructors stand in one another at most as deep as there are classes
abbrev pub FormNests : Type 0
FormNests = (spec : Spec) → IsWellFormed spec → ConstructorsNest (form_of spec)
