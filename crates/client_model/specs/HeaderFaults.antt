-- Where the headers of a client break a rule.
use Rattle.std.specs.Prelude.{Bool, not, ◌&&◌, ◌||◌, List, [], ◌∷◌, ◌++◌, codes, is_some, length, map, nat_lt}
use Rattle.std.specs.List.{flat_map, list_any}
use Rattle.client_model.specs.Lookups.{class_named, is_same}
use Rattle.client_model.specs.Faults.{Duplicate, Fault, Mismatch, Unknown, broken_if}
use Rattle.client_model.specs.Trees.{Client, Proc, procedures_in, statics_in}
use Rattle.easl_model.specs.CheckedForm.{has_values}
use Rattle.easl_model.specs.Form.{Form}
use Rattle.easl_model.specs.declared.tree.Sort.{Sort}
use Rattle.easl_model.specs.declared.tree.Sort.TheVariants as sort
use Rattle.easl_model.specs.declared.tree.Word.{Word}

-- Duplicate: a second static, procedure or parameter of one name, at that name. One of these words, behind earlier ones,
-- has the name of an earlier one
abbrev pub second_names : List Word → List Word → List Fault
second_names before [] = []
second_names before (w ∷ ws) = broken_if (list_any (λ v. is_same v.name w.name) before) Duplicate w.place ++ second_names (before ++ w ∷ []) ws

-- Unknown: a class is not there, at its name
abbrev pub no_class : Form → Word → List Fault
no_class form w = broken_if (not (is_some (class_named form w.name))) Unknown w.place

-- Unknown: a type is no class, at that name
abbrev pub no_type : Form → Sort → List Fault
no_type form sort.Void = []
no_type form (sort.Opaque kind) = []
no_type form (sort.Class w) = no_class form w

abbrev pub is_main : Proc → Bool
is_main p = is_same p.name.name (codes "main")

-- Mismatch: `main` has a parameter or a result, at its name
abbrev pub main_differs : Proc → List Fault
main_differs p = broken_if (is_main p && (nat_lt 0 (length p.params) || has_values p.result)) Mismatch p.name.place

abbrev pub faults_of_header : Form → Proc → List Fault
faults_of_header form p =
    main_differs p
    ++ no_type form p.result
    ++ second_names [] (map (λ x. x.name) p.params)
    ++ flat_map (λ x. no_type form x.sort) p.params

abbrev pub faults_of_headers : Form → Client → List Fault
faults_of_headers form client =
    second_names [] (map (λ x. x.name) (statics_in client.items))
    ++ second_names [] (map (λ p. p.name) (procedures_in client.items))
    ++ flat_map (λ x. no_type form x.sort) (statics_in client.items)
    ++ flat_map (faults_of_header form) (procedures_in client.items)
