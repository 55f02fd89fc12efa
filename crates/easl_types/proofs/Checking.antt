-- From the passes to the answer.
use Rattle.std.proofs.Common.{◌≡◌, List, map, refl, ap, sym, subst, ◌∙◌}
use Rattle.std.specs.Option.{option_or}
use Rattle.std.specs.Prelude.{Option, Some, None}
use Rattle.easl_model.specs.{Body, IsChecked, bodies_of, classes_from, fault, faults_of_bodies, faults_of_cycles, faults_of_headers, faults_of_lengths}
use Rattle.easl_model.specs.{first_fault, first_of, form_of, method_of}
use Rattle.easl_model.specs.Checked.{IsReadable}
use Rattle.easl_model.specs.Form.{Form}
use Rattle.easl_model.specs.declared.fault.Fault.{Fault}
use Rattle.easl_model.specs.declared.fault.Rule.{Rule}
use Rattle.easl_model.specs.declared.fault.Rule.TheVariants as rule
use Rattle.easl_model.specs.declared.form.ClassForm.{ClassForm}
use Rattle.easl_model.specs.declared.form.Method.{Method}
use Rattle.easl_model.specs.declared.place.Place.{Place}
use Rattle.easl_model.specs.declared.tree.Spec.{Spec}
use Rattle.easl_model.proofs.First.{none_found, none_of_passes, well_formed}
use Rattle.easl_types.specs.Answers.{Tells, first_of_names, told_as}
use Rattle.easl_types.specs.Counts.{long_methods}
use Rattle.easl_types.specs.declared.spec_fault.SpecFault.{SpecFault}
use Rattle.easl_types.proofs.Counting.{lengths_found}

told_by : (r : Rule) (p : Place) → Tells (Some (fault r p)) (told_as r p)
told_by rule.Duplicate p = refl
told_by rule.Unknown p = refl
told_by rule.Mismatch p = refl
told_by rule.Unready p = refl
told_by rule.ConstructorCycle p = refl
told_by rule.TooLong p = refl

-- the first fault is told
pub tells : (first : Option Fault) (f : Fault) (answer : SpecFault) → first ≡ Some f → answer ≡ told_as f.rule f.place → Tells first answer
tells first f answer is told = subst (λ a. Tells first a) (sym told) (subst (λ o. Tells o (told_as f.rule f.place)) (sym is) (told_by f.rule f.place))

passes : (headers bodies cycles lengths : Option Fault)
    → option_or headers (option_or bodies (option_or cycles lengths)) ≡ option_or (option_or headers (option_or bodies cycles)) lengths
passes None None cycles lengths = refl
passes None (Some f) cycles lengths = refl
passes (Some f) bodies cycles lengths = refl

pub first_is : (spec : Spec) → first_fault spec ≡ option_or (first_of_names spec) (first_of (faults_of_lengths spec))
first_is spec = passes (first_of (faults_of_headers spec)) (first_of (faults_of_bodies spec)) (first_of (faults_of_cycles spec)) (first_of (faults_of_lengths spec))

-- a fault of the passes before the counts is the first
pub first_named : (spec : Spec) (f : Fault) → first_of_names spec ≡ Some f → first_fault spec ≡ Some f
first_named spec f is = first_is spec ∙ ap (λ o. option_or o (first_of (faults_of_lengths spec))) is

-- the parts of the form of the tree, and the places of its methods
pub record ArePartsOf (spec : Spec) (classes : List ClassForm) (methods : List Method) (places : List Place) : Type 0 where
  pub classes_are : classes ≡ classes_from spec 0 spec.classes
  pub methods_are : methods ≡ map (method_of spec) (bodies_of spec)
  pub places_are : places ≡ map (λ (b : Body). b.code.name.place) (bodies_of spec)

form_is : (spec : Spec) (classes : List ClassForm) (methods : List Method) (places : List Place) → ArePartsOf spec classes methods places
    → (let form : Form = record { classes = classes; methods = methods } in form) ≡ form_of spec
form_is spec classes methods places are =
    ap (λ cs. let form : Form = record { classes = cs; methods = methods } in form) are.classes_are
    ∙ ap (λ ms. let form : Form = record { classes = classes_from spec 0 spec.classes; methods = ms } in form) are.methods_are

-- where they find no fault, the first is that of the counts
first_long : (spec : Spec) (classes : List ClassForm) (methods : List Method) (places : List Place) → IsReadable spec → first_of_names spec ≡ None
    → ArePartsOf spec classes methods places → first_of (long_methods (record { classes = classes; methods = methods }) places) ≡ first_fault spec
first_long spec classes methods places readable none are =
    let headers = first_of (faults_of_headers spec) in
    let bodies = first_of (faults_of_bodies spec) in
    let a = none_of_passes headers (option_or bodies (first_of (faults_of_cycles spec))) none in
    let free = none_found (faults_of_bodies spec) (none_of_passes bodies (first_of (faults_of_cycles spec)) a.1).0 in
    ap (λ f. first_of (long_methods f places)) (form_is spec classes methods places are)
    ∙ ap (λ ps. first_of (long_methods (form_of spec) ps)) are.places_are
    ∙ ap first_of (lengths_found spec free readable.limits)
    ∙ sym (first_is spec ∙ ap (λ o. option_or o (first_of (faults_of_lengths spec))) none)

-- what is found last, in lists that are those parts, is the first fault
pub long_is : (spec : Spec) (named long : Option Fault) (classes listed : List ClassForm) (methods numbered : List Method) (places ordered : List Place)
    → IsReadable spec
    → named ≡ first_of_names spec → named ≡ None → ArePartsOf spec classes methods places → listed ≡ classes → numbered ≡ methods → ordered ≡ places
    → long ≡ first_of (long_methods (record { classes = listed; methods = numbered }) ordered) → first_fault spec ≡ long
long_is spec named long classes listed methods numbered places ordered readable is none are a b d found =
    let these : ArePartsOf spec listed numbered ordered =
    record { classes_are = a ∙ are.classes_are; methods_are = b ∙ are.methods_are; places_are = d ∙ are.places_are } in
    sym (found ∙ first_long spec listed numbered ordered readable (sym is ∙ none) these)

-- a tree in which no fault is found has a checked form
pub parts_checked : (spec : Spec) (classes : List ClassForm) (methods : List Method) (places : List Place) → IsReadable spec → first_fault spec ≡ None
    → ArePartsOf spec classes methods places → IsChecked (record { classes = classes; methods = methods })
parts_checked spec classes methods places readable none are = record {
  tree = spec;
  readable = readable;
  well_formed = well_formed spec none;
  form = form_is spec classes methods places are;
}

pub parts_are : (spec : Spec) (form : Form) (classes : List ClassForm) (methods : List Method) (places : List Place)
    → form ≡ record { classes = classes; methods = methods }
    → ArePartsOf spec classes methods places → form ≡ form_of spec
parts_are spec form classes methods places is are = is ∙ form_is spec classes methods places are
