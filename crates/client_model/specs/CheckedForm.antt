-- The checked form of a client: numbers and codes in place of names. Where a rule is broken it says nothing.
use Rattle.std.specs.Prelude.{ℕ, zero, suc, List, [], ◌∷◌, ◌++◌, Option, Some, None, codes, filter_map, if◌then◌else◌, length, map}
use Rattle.std.specs.List.{flat_map}
use Rattle.client_model.specs.declared.form.CallSite.{CallSite}
use Rattle.client_model.specs.declared.form.Point.{Point}
use Rattle.client_model.specs.declared.form.Point.TheVariants as point
use Rattle.client_model.specs.Bodies.{Body, all_in, bodies_of, codes_of, whole_of}
use Rattle.client_model.specs.Contexts.{Situated}
use Rattle.client_model.specs.HeaderFaults.{is_main}
use Rattle.client_model.specs.Nodes.{Step, Trees, end, shape_from, ◌▹◌}
use Rattle.client_model.specs.Points.{declared_at, point_of, set_at, set_at_exit, site_at}
use Rattle.client_model.specs.Settings.{class_in, kind_of, setting_of}
use Rattle.client_model.specs.Trees.{Client, Initialiser, Item, Proc, Procedure, procedures_in}
use Rattle.easl_model.specs.Form.{Form}
use Rattle.easl_model.specs.declared.tree.Param.{Param}

-- a procedure: the classes of its parameters, its result and its variables, None where one is opaque; what is done at each
-- point; how its statements stand in one another; and the codes of the names that are set at each point and at the exit
pub record ProcedureForm : Type 0 where
  pub name : List ℕ
  pub params : List (Option ℕ)
  pub result : Option ℕ
  pub variables : List (Option ℕ)
  pub points : List Point
  pub shape : Trees
  pub set : List (List ℕ)

-- the classes of the statics, the procedures, the start before those of the text, and the calls by number
pub record ClientForm : Type 0 where
  pub statics : List (Option ℕ)
  pub procedures : List ProcedureForm
  pub calls : List CallSite

abbrev pub classes_of : Form → List Param → List (Option ℕ)
classes_of form params = map (λ p. class_in (kind_of form p.sort)) params

abbrev pub procedure_form : Form → Body → Proc → ProcedureForm
procedure_form form b p =
    let whole = all_in b
    in record {
      name = p.name.name;
      params = classes_of form p.params;
      result = class_in (kind_of form p.result);
      variables = classes_of form p.params ++ filter_map declared_at whole;
      points = map point_of whole;
      shape = shape_from 0 b.statements;
      set = map set_at whole ++ set_at_exit b ∷ [];
    }

abbrev pub form_by : Form → Body → Item → Option ProcedureForm
form_by form b (Initialiser x) = None
form_by form b (Procedure p) = Some (procedure_form form b p)

abbrev pub in_start : Body → Item → List Situated
in_start b (Initialiser x) = all_in b
in_start b (Procedure p) = []

-- the call of `main`, the first of these procedures, numbered from here on, that is so named
abbrev pub call_of_main : ℕ → List Proc → Point
call_of_main number [] = point.Nothing
call_of_main number (p ∷ rest) = if is_main p then point.Call None number [] p.name.place else call_of_main (suc number) rest

-- so many steps, numbered from here on
abbrev pub steps_from : ℕ → ℕ → Trees
steps_from point zero = end
steps_from point (suc more) = Step point ▹ steps_from (suc point) more

-- the start: the initialisers, and then the call of `main`
abbrev pub start_form : Form → Client → ProcedureForm
start_form form client =
    let initial = flat_map (λ b. in_start b b.item) (bodies_of form client)
    in let statics = codes_of (setting_of form client).statics
    in record {
      name = codes "start";
      params = [];
      result = None;
      variables = [];
      points = map point_of initial ++ call_of_main 1 (procedures_in client.items) ∷ [];
      shape = steps_from 0 (suc (length initial));
      set = map set_at initial ++ statics ∷ statics ∷ [];
    }

abbrev pub form_of : Form → Client → ClientForm
form_of form client = record {
  statics = map (λ v. class_in v.kind) (setting_of form client).statics;
  procedures = start_form form client ∷ filter_map (λ b. form_by form b b.item) (bodies_of form client);
  calls = filter_map site_at (whole_of form client);
}
