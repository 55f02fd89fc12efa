-- The form of the start.
use Rattle.std.proofs.Common.{◌≡◌, ℕ, suc, ◌+◌, true, List, [], ◌∷◌, ◌++◌, ap, arith, codes, length, map, refl, ◌∙◌}
use Rattle.std.specs.Prelude.{Option, None}
use Rattle.client_model.specs.Nodes.{tree_of, trees}
use Rattle.client_model.specs.declared.form.Node.{Node}
use Rattle.client_model.specs.declared.form.Point.{Point}
use Rattle.client_model.specs.declared.tree.Proc.{Proc}
use Rattle.client_points.specs.Writing.{initial_of}
use Rattle.client_model.proofs.StartSets.{start_sets}
use Rattle.client_model.specs.Checked.{procedure_seen}
use Rattle.client_model.specs.CheckedForm.{ProcedureForm, call_of_main, start_form, steps_from}
use Rattle.client_model.specs.Points.{point_of}
use Rattle.client_model.specs.Trees.{Client, procedure_of, procedures_in}
use Rattle.client_values.proofs.Taking.{length_map}
use Rattle.easl_model.specs.Form.{Form}
use Rattle.set_names.specs.Sets.{sets_of}

-- parts that are the same
form_same : (p q : ProcedureForm) → p.name ≡ q.name → p.params ≡ q.params → p.result ≡ q.result → p.variables ≡ q.variables → p.points ≡ q.points → p.shape ≡ q.shape
    → p.set ≡ q.set → p ≡ q
form_same p q name params result variables points shape set =
    ap (λ x. record p { name = x }) name
    ∙ ap (λ x. record p { name = q.name; params = x }) params
    ∙ ap (λ x. record p { name = q.name; params = q.params; result = x }) result
    ∙ ap (λ x. record p { name = q.name; params = q.params; result = q.result; variables = x }) variables
    ∙ ap (λ x. record q { points = x; shape = p.shape; set = p.set }) points
    ∙ ap (λ x. record q { shape = x; set = p.set }) shape
    ∙ ap (λ x. record q { set = x }) set

pub start_same : (form : Form) (client : Client) (procedures : List Proc) (initial : List Point) (name : List ℕ) (params variables : List (Option ℕ))
    (points : List Point) (nodes : List Node) (sets : List (List ℕ)) (statics count : ℕ) → name ≡ codes "start" → params ≡ [] → variables ≡ []
    → points ≡ initial ++ call_of_main 1 (map procedure_of procedures) ∷ [] → statics ≡ length initial → count ≡ statics + 1
    → trees (map tree_of nodes) ≡ steps_from 0 count → sets ≡ sets_of true statics (statics + 1) []
    → map procedure_of procedures ≡ procedures_in client.items → initial ≡ map point_of (initial_of form client)
    → procedure_seen (record { name = name; params = params; result = None; variables = variables; points = points; shape = nodes; set = sets })
    ≡ start_form form client
start_same form client procedures initial name params variables points nodes sets statics count called taken declared done many counted stand told all of =
    let all_done : points ≡ map point_of (initial_of form client) ++ call_of_main 1 (procedures_in client.items) ∷ [] =
    done ∙ ap (λ xs. xs ++ call_of_main 1 (map procedure_of procedures) ∷ []) of
    ∙ ap (λ ps. map point_of (initial_of form client) ++ call_of_main 1 ps ∷ []) all in
    let as_many : statics ≡ length (initial_of form client) = many ∙ ap length of ∙ length_map point_of (initial_of form client) in
    let more : count ≡ suc (length (initial_of form client)) = omega (arith, counted, as_many) in
    form_same (procedure_seen (record { name = name; params = params; result = None; variables = variables; points = points; shape = nodes; set = sets }))
    (start_form form client) called taken refl declared all_done (stand ∙ ap (steps_from 0) more)
    (told ∙ start_sets form client statics as_many)
