-- What the check of a specification answers.
use Rattle.std.specs.Prelude.{◌≡◌, Option, Some}
use Rattle.easl_model.specs.{fault, faults_of_bodies, faults_of_cycles, faults_of_headers, first_of}
use Rattle.easl_model.specs.declared.fault.Fault.{Fault}
use Rattle.easl_model.specs.declared.fault.Rule.{Rule}
use Rattle.easl_model.specs.declared.fault.Rule.TheVariants as rule
use Rattle.easl_model.specs.declared.place.Place.{Place}
use Rattle.easl_model.specs.declared.tree.Spec.{Spec}
use Rattle.easl_types.specs.declared.spec_fault.SpecFault.{SpecFault}
use Rattle.easl_types.specs.declared.spec_fault.SpecFault.TheVariants as answer
use Rattle.std.specs.Option.{option_or}

abbrev pub told_as : Rule → Place → SpecFault
told_as rule.Duplicate place = answer.Duplicate place
told_as rule.Unknown place = answer.Unknown place
told_as rule.Mismatch place = answer.Mismatch place
told_as rule.Unready place = answer.Unready place
told_as rule.ConstructorCycle place = answer.ConstructorCycle place
told_as rule.TooLong place = answer.TooLong place

-- the answer is the first fault, or that no memory was found
abbrev pub Tells : Option Fault → SpecFault → Type 0
Tells first (answer.Duplicate place) = first ≡ Some (fault rule.Duplicate place)
Tells first (answer.Unknown place) = first ≡ Some (fault rule.Unknown place)
Tells first (answer.Mismatch place) = first ≡ Some (fault rule.Mismatch place)
Tells first (answer.Unready place) = first ≡ Some (fault rule.Unready place)
Tells first (answer.ConstructorCycle place) = first ≡ Some (fault rule.ConstructorCycle place)
Tells first (answer.TooLong place) = first ≡ Some (fault rule.TooLong place)
Tells first answer.Memory = Unit {0}

-- the first fault of the passes before the counts
abbrev pub first_of_names : Spec → Option Fault
first_of_names spec = option_or (first_of (faults_of_headers spec)) (option_or (first_of (faults_of_bodies spec)) (first_of (faults_of_cycles spec)))
