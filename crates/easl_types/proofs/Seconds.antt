-- The rules of headers, one after another.
use Rattle.std.proofs.Common.{◌≡◌, ℕ, ◌+◌, ◌<◌, true, false, List, [], ◌∷◌, ◌++◌, ap, drop, get_or, length, map, refl, sym, ◌∙◌}
use Rattle.std.specs.List.{flat_map, list_any}
use Rattle.std.specs.Prelude.{Option}
use Rattle.easl_model.specs.{broken_if, codes_in, constructors_in, fault, faults_of_class, faults_of_header, fields_in, first_with, is_same, methods_in}
use Rattle.easl_model.specs.{no_class, other_name, second_constructors, second_names}
use Rattle.easl_model.specs.Faults.{comes_before}
use Rattle.easl_model.specs.declared.fault.Fault.{Fault}
use Rattle.easl_model.specs.declared.fault.Rule.TheVariants as rule
use Rattle.easl_model.specs.declared.tree.Class.{Class}
use Rattle.easl_model.specs.declared.tree.Code.{Code}
use Rattle.easl_model.specs.declared.tree.Field.{Field}
use Rattle.easl_model.specs.declared.tree.Member.{Member}
use Rattle.easl_model.specs.declared.tree.Spec.{Spec}
use Rattle.easl_model.specs.declared.tree.Word.{Word}
use Rattle.easl_model.proofs.Finding.{both}
use Rattle.easl_types.specs.Constructors.{constructors_behind}
use Rattle.easl_bodies.proofs.Walks.{rest_is}

each_behind : (codes : List Code) → constructors_behind true codes ≡ map (λ (c : Code). fault rule.Duplicate c.name.place) codes
each_behind [] = refl
each_behind (c ∷ codes) = ap (λ fs. fault rule.Duplicate c.name.place ∷ fs) (each_behind codes)

pub behind_none : (codes : List Code) → second_constructors codes ≡ constructors_behind false codes
behind_none [] = refl
behind_none (c ∷ codes) = sym (each_behind codes)

-- one more word is compared with those before it
pub second_more : {A : Type 0} (name : A → Word) (found next all : Option Fault) (before after : List Word) (xs : List A) (k : ℕ) (x : A)
    → k < length xs → x ≡ get_or xs k x
    → next ≡ first_with comes_before found (broken_if (list_any (λ (v : Word). is_same v.name (name x).name) before) rule.Duplicate (name x).place)
    → after ≡ before ++ name x ∷ []
    → first_with comes_before found (second_names before (map name (drop k xs))) ≡ all
    → first_with comes_before next (second_names after (map name (drop (k + 1) xs))) ≡ all
second_more name found next all before after xs k x within at told behind left =
    let ws = map name (drop (k + 1) xs) in
    let now = broken_if (list_any (λ (v : Word). is_same v.name (name x).name) before) rule.Duplicate (name x).place in
    ap (λ vs. first_with comes_before next (second_names vs ws)) behind
    ∙ ap (λ f. first_with comes_before f (second_names (before ++ name x ∷ []) ws)) told
    ∙ sym (both comes_before found now (second_names (before ++ name x ∷ []) ws))
    ∙ ap (λ ys. first_with comes_before found (second_names before (map name ys))) (sym (rest_is xs k x within at))
    ∙ left

-- the rules of a class with these members, one after another
pub all_of_class : (spec : Spec) (c : Class) (members : List Member) (found fields methods constructors types names last : Option Fault) → members ≡ c.members
    → fields ≡ first_with comes_before found (second_names [] (map (λ (f : Field). f.name) (fields_in members)))
    → methods ≡ first_with comes_before fields (second_names [] (map (λ (code : Code). code.name) (methods_in members)))
    → constructors ≡ first_with comes_before methods (second_constructors (constructors_in members))
    → types ≡ first_with comes_before constructors (flat_map (λ (f : Field). no_class spec f.class) (fields_in members))
    → names ≡ first_with comes_before types (flat_map (other_name c) (constructors_in members))
    → last ≡ first_with comes_before names (flat_map (faults_of_header spec) (codes_in members))
    → last ≡ first_with comes_before found (faults_of_class spec c)
all_of_class spec c members found fields methods constructors types names last are a b d e g h =
    let f1 = second_names [] (map (λ (f : Field). f.name) (fields_in members)) in
    let f2 = second_names [] (map (λ (code : Code). code.name) (methods_in members)) in
    let f3 = second_constructors (constructors_in members) in
    let f4 = flat_map (λ (f : Field). no_class spec f.class) (fields_in members) in
    let f5 = flat_map (other_name c) (constructors_in members) in
    let f6 = flat_map (faults_of_header spec) (codes_in members) in
    let two = more found f1 f2 fields methods a b in
    let three = more found (f1 ++ f2) f3 methods constructors two d in
    let four = more found (f1 ++ f2 ++ f3) f4 constructors types three e in
    let five = more found (f1 ++ f2 ++ f3 ++ f4) f5 types names four g in
    more found (f1 ++ f2 ++ f3 ++ f4 ++ f5) f6 names last five h
    ∙ ap (λ (ms : List Member). first_with comes_before found (second_names [] (map (λ (f : Field). f.name) (fields_in ms))
    ++ second_names [] (map (λ (code : Code). code.name) (methods_in ms))
    ++ second_constructors (constructors_in ms)
    ++ flat_map (λ (f : Field). no_class spec f.class) (fields_in ms)
    ++ flat_map (other_name c) (constructors_in ms)
    ++ flat_map (faults_of_header spec) (codes_in ms))) are
  where
    more : (start : Option Fault) (fs gs : List Fault) (first second : Option Fault) → first ≡ first_with comes_before start fs
        → second ≡ first_with comes_before first gs
        → second ≡ first_with comes_before start (fs ++ gs)
    more start fs gs first second is later = later ∙ ap (λ o. first_with comes_before o gs) is ∙ sym (both comes_before start fs gs)
