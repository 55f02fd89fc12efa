-- The rules of a specification, pass by pass.
use Rattle.std.specs.Prelude.{◌≡◌, List, [], Option, nat_lt}
use Rattle.std.specs.List.{flat_map}
use Rattle.std.specs.Option.{option_or}
use Rattle.easl_model.specs.Bodies.{Body, bodies_of}
use Rattle.easl_model.specs.Limits.{count_in_place}
use Rattle.easl_model.specs.declared.tree.Spec.{Spec}
use Rattle.easl_model.specs.BodyFaults.{faults_of_body}
use Rattle.easl_model.specs.CheckedForm.{form_of, method_of}
use Rattle.easl_model.specs.Cycles.{faults_of_cycles}
use Rattle.easl_model.specs.Faults.{broken_if, first_of}
use Rattle.easl_model.specs.HeaderFaults.{faults_of_headers}
use Rattle.easl_model.specs.declared.fault.Fault.{Fault}
use Rattle.easl_model.specs.declared.fault.Rule.TheVariants as rule

abbrev pub faults_of_bodies : Spec → List Fault
faults_of_bodies spec = flat_map (faults_of_body spec) (bodies_of spec)

-- more statements in place than the limit
abbrev pub too_long : Spec → Body → List Fault
too_long spec b = broken_if (nat_lt 1024 (count_in_place (form_of spec) (method_of spec b))) rule.TooLong b.code.name.place

abbrev pub faults_of_lengths : Spec → List Fault
faults_of_lengths spec = flat_map (too_long spec) (bodies_of spec)

-- the first fault of the first pass that finds one
abbrev pub first_fault : Spec → Option Fault
first_fault spec = option_or (first_of (faults_of_headers spec)) (option_or (first_of (faults_of_bodies spec)) (option_or (first_of (faults_of_cycles spec)) (first_of (faults_of_lengths spec))))

-- no rule applies
pub record IsWellFormed (spec : Spec) : Type 0 where
  pub headers : faults_of_headers spec ≡ []
  pub bodies : faults_of_bodies spec ≡ []
  pub cycles : faults_of_cycles spec ≡ []
  pub lengths : faults_of_lengths spec ≡ []
