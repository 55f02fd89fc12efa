-- What is written of the items of a client.
use Rattle.std.specs.Prelude.{◌≡◌, ℕ, List, [], ◌∷◌, ◌++◌, Option, Some, None, filter_map, map}
use Rattle.std.specs.List.{flat_map}
use Rattle.client_model.specs.declared.form.CallSite.{CallSite}
use Rattle.client_model.specs.declared.form.Point.{Point}
use Rattle.client_points.specs.Writing.{initial_of}
use Rattle.client_points.specs.declared.whole.Bodies.{Bodies}
use Rattle.client_model.specs.Bodies.{Body, all_in, bodies_of, whole_of}
use Rattle.client_model.specs.Checked.{procedure_seen}
use Rattle.client_model.specs.CheckedForm.{ProcedureForm, form_by, in_start}
use Rattle.client_model.specs.Points.{point_of, set_at, set_at_exit, site_at}
use Rattle.client_model.specs.Rules.{faults_of_bodies}
use Rattle.client_model.specs.Settings.{class_in, setting_of}
use Rattle.client_model.specs.Trees.{Client, Initialiser, Item, Procedure as ProcedureItem}
use Rattle.client_model.specs.declared.form.Procedure.{Procedure}
use Rattle.easl_model.specs.Form.{Form}

-- the names that are set aside, in the code's form of a procedure and in the form
abbrev pub unset_seen : Procedure → ProcedureForm
unset_seen p = record (procedure_seen p) { set = [] }

abbrev pub without_set : ProcedureForm → ProcedureForm
without_set x = record x { set = [] }

-- the names that are set at the points of a body and at its exit
abbrev pub sets_in : Body → List (List ℕ)
sets_in b = map set_at (all_in b) ++ set_at_exit b ∷ []

abbrev pub sets_by : Body → Item → Option (List (List ℕ))
sets_by b (Initialiser x) = None
sets_by b (ProcedureItem p) = Some (sets_in b)

-- it is written of this client. Of the names that are set something is known where no rule is broken
pub record AreBodies (form : Form) (client : Client) (b : Bodies) : Type 0 where
  pub statics : b.statics ≡ map (λ v. class_in v.kind) (setting_of form client).statics
  pub initial : b.initial ≡ map point_of (initial_of form client)
  pub procedures : map unset_seen b.procedures ≡ map without_set (filter_map (λ x. form_by form x x.item) (bodies_of form client))
  pub sets : faults_of_bodies form client ≡ [] → map (λ p. p.set) b.procedures ≡ filter_map (λ x. sets_by x x.item) (bodies_of form client)
  pub calls : b.calls ≡ filter_map site_at (whole_of form client)

-- what is written of items: the points of the start, the procedures, and the calls
pub record Whole : Type 0 where
  pub initial : List Point
  pub procedures : List ProcedureForm
  pub calls : List CallSite

-- with these bodies
abbrev pub with_bodies : Form → List Body → Whole → Whole
with_bodies form bodies w = record {
  initial = w.initial ++ map point_of (flat_map (λ b. in_start b b.item) bodies);
  procedures = w.procedures ++ map without_set (filter_map (λ b. form_by form b b.item) bodies);
  calls = w.calls ++ filter_map site_at (flat_map all_in bodies);
}
