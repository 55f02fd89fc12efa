-- Clients that pass each check.
use Rattle.std.specs.Prelude.{◌≡◌, None}
use Rattle.client_model.specs.Rules.{first_fault}
use Rattle.client_model.specs.Trees.{Client}
use Rattle.client_points.specs.Wholes.{AreBodies}
use Rattle.client_points.specs.declared.whole.Bodies.{Bodies}
use Rattle.easl_model.specs.Form.{Form}

-- the client breaks no rule, and this is written of its items
pub record IsPassed (form : Form) (client : Client) (b : Bodies) : Type 0 where
  pub well_formed : first_fault form client ≡ None
  pub written : AreBodies form client b
