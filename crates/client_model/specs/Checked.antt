-- What every checked client keeps.
use Rattle.std.specs.Prelude.{◌+◌, ◌≤◌, All, length, map}
use Rattle.client_model.specs.Nodes.{tree_of, trees}
use Rattle.client_model.specs.Program as told
use Rattle.client_model.specs.declared.form.Procedure.{Procedure}
use Rattle.client_model.specs.CheckedForm.{ClientForm, ProcedureForm}
use Rattle.client_model.specs.Fits.{Fits}
use Rattle.easl_model.specs.Checked.{IsChecked}
use Rattle.easl_model.specs.Form.{Form}

-- the code's procedure, its nodes as trees
abbrev pub procedure_seen : Procedure → ProcedureForm
procedure_seen p = record {
  name = p.name;
  params = p.params;
  result = p.result;
  variables = p.variables;
  points = p.points;
  shape = trees (map tree_of p.shape);
  set = p.set;
}

abbrev pub seen : told.ClientForm → ClientForm
seen c = record { statics = c.statics; procedures = map procedure_seen c.procedures; calls = c.calls }

-- the code's form is that of a client that is well-formed for this specification
abbrev pub IsFitting : Form → told.ClientForm → Type 0
IsFitting form c = Fits form (seen c)

-- it fits some checked specification
pub record IsCheckedClient (c : told.ClientForm) : Type 0 where
  pub form : Form
  pub specification : IsChecked form
  pub fits : IsFitting form c

-- there are no more statics, procedures, points and calls than their numbers can say, and a procedure sees few names: the statics and its
-- parameters and locals
pub record IsInRange (c : told.ClientForm) : Type 0 where
  pub few_statics : length c.statics ≤ 1048576
  pub few_procedures : length c.procedures ≤ 1048577
  pub few_points : All (λ p. length p.points ≤ 1048577) c.procedures
  pub few_names : All (λ p. length c.statics + length p.variables ≤ 524288) c.procedures
  pub few_calls : length c.calls ≤ 1048576
