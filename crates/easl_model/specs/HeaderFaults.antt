-- Where headers break a rule.
use Rattle.std.specs.Prelude.{not, List, [], ◌∷◌, ◌++◌, map}
use Rattle.std.specs.List.{flat_map, list_any}
use Rattle.easl_model.specs.Names.{codes_in, constructors_in, fields_in, methods_in}
use Rattle.easl_model.specs.declared.tree.Class.{Class}
use Rattle.easl_model.specs.declared.tree.Code.{Code}
use Rattle.easl_model.specs.declared.tree.Sort.{Sort}
use Rattle.easl_model.specs.declared.tree.Sort.TheVariants as sort
use Rattle.easl_model.specs.declared.tree.Spec.{Spec}
use Rattle.easl_model.specs.declared.tree.Word.{Word}
use Rattle.easl_model.specs.BodyFaults.{no_class}
use Rattle.easl_model.specs.Faults.{broken_if, fault}
use Rattle.easl_model.specs.Names.{is_same}
use Rattle.easl_model.specs.declared.fault.Fault.{Fault}
use Rattle.easl_model.specs.declared.fault.Rule.TheVariants as rule

-- a second one of these words, behind earlier ones, has the name of an earlier one
abbrev pub second_names : List Word → List Word → List Fault
second_names before [] = []
second_names before (w ∷ ws) = broken_if (list_any (λ v. is_same v.name w.name) before) rule.Duplicate w.place ++ second_names (before ++ w ∷ []) ws

-- a second constructor
abbrev pub second_constructors : List Code → List Fault
second_constructors [] = []
second_constructors (code ∷ codes) = map (λ other. fault rule.Duplicate other.name.place) codes

-- the type is no class
abbrev pub no_type : Spec → Sort → List Fault
no_type spec sort.Void = []
no_type spec (sort.Opaque kind) = []
no_type spec (sort.Class w) = no_class spec w

-- a constructor is not named as its class
abbrev pub other_name : Class → Code → List Fault
other_name class code = broken_if (not (is_same code.name.name class.name.name)) rule.Unknown code.name.place

abbrev pub faults_of_header : Spec → Code → List Fault
faults_of_header spec code =
    no_type spec code.result
    ++ second_names [] (map (λ p. p.name) code.params)
    ++ flat_map (λ p. no_type spec p.sort) code.params

abbrev pub faults_of_class : Spec → Class → List Fault
faults_of_class spec c =
    second_names [] (map (λ f. f.name) (fields_in c.members))
    ++ second_names [] (map (λ code. code.name) (methods_in c.members))
    ++ second_constructors (constructors_in c.members)
    ++ flat_map (λ f. no_class spec f.class) (fields_in c.members)
    ++ flat_map (other_name c) (constructors_in c.members)
    ++ flat_map (faults_of_header spec) (codes_in c.members)

abbrev pub faults_of_headers : Spec → List Fault
faults_of_headers spec =
    second_names [] (map (λ c. c.name) spec.classes)
    ++ flat_map (faults_of_class spec) spec.classes
