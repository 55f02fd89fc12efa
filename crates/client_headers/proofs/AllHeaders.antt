-- The rules of headers, one after another.
use Rattle.std.proofs.Common.{◌≡◌, List, [], ◌++◌, ap, map, sym, ◌∙◌}
use Rattle.std.specs.List.{flat_map}
use Rattle.std.proofs.lemmas.List.Folds.{flat_map-map}
use Rattle.std.specs.Prelude.{Option, None}
use Rattle.std.proofs.lemmas.Simd.{map-map}
use Rattle.client_model.specs.declared.tree.Client.{Client as Written}
use Rattle.client_model.specs.declared.tree.Proc.{Proc as WrittenProc}
use Rattle.client_model.specs.declared.tree.Static.{Static}
use Rattle.client_model.specs.Faults.{Fault, comes_before}
use Rattle.client_model.specs.HeaderFaults.{faults_of_header, faults_of_headers, no_type, second_names}
use Rattle.client_model.specs.Trees.{client_of, procedure_of, procedures_in, statics_in}
use Rattle.easl_model.proofs.Finding.{both}
use Rattle.easl_model.specs.Faults.{first_with}
use Rattle.easl_model.specs.Form.{Form}

-- the faults of all headers, one rule after another
pub all_headers : (form : Form) (c : Written) (statics : List Static) (procedures : List WrittenProc) (first second third all : Option Fault)
    → statics ≡ statics_in (client_of c).items → map procedure_of procedures ≡ procedures_in (client_of c).items
    → first ≡ first_with comes_before None (second_names [] (map (λ x. x.name) statics))
    → second ≡ first_with comes_before first (second_names [] (map (λ p. p.name) procedures))
    → third ≡ first_with comes_before second (flat_map (λ x. no_type form x.sort) statics)
    → all ≡ first_with comes_before third (flat_map (λ p. faults_of_header form (procedure_of p)) procedures)
    → all ≡ first_with comes_before None (faults_of_headers form (client_of c))
all_headers form c statics procedures first second third all are are_too a b d e =
    let told = map procedure_of procedures in
    let f1 = second_names [] (map (λ x. x.name) statics) in
    let f2 = second_names [] (map (λ p. p.name) told) in
    let f3 = flat_map (λ x. no_type form x.sort) statics in
    let f4 = flat_map (faults_of_header form) told in
    let names : second_names [] (map (λ p. p.name) procedures) ≡ f2 = ap (second_names []) (sym (map-map (λ p. p.name) procedure_of procedures)) in
    let own : flat_map (λ p. faults_of_header form (procedure_of p)) procedures ≡ f4 = sym (flat_map-map (faults_of_header form) procedure_of procedures) in
    let two = more None f1 f2 first second a (b ∙ ap (first_with comes_before first) names) in
    let three = more None (f1 ++ f2) f3 second third two d in
    let four = more None ((f1 ++ f2) ++ f3) f4 third all three (e ∙ ap (first_with comes_before third) own) in
    four
    ∙ ap (λ ss. first_with comes_before None (second_names [] (map (λ x. x.name) ss) ++ f2 ++ flat_map (λ x. no_type form x.sort) ss ++ f4)) are
    ∙ ap (λ ps. first_with comes_before None (second_names [] (map (λ x. x.name) (statics_in (client_of c).items)) ++ second_names [] (map (λ p. p.name) ps)
    ++ flat_map (λ x. no_type form x.sort) (statics_in (client_of c).items) ++ flat_map (faults_of_header form) ps)) are_too
  where
    more : (start : Option Fault) (fs gs : List Fault) (found next : Option Fault) → found ≡ first_with comes_before start fs
        → next ≡ first_with comes_before found gs → next ≡ first_with comes_before start (fs ++ gs)
    more start fs gs found next is later = later ∙ ap (λ o. first_with comes_before o gs) is ∙ sym (both comes_before start fs gs)
