-- A checked client as the code keeps it.
use Rattle.std.specs.Prelude.{ℕ, List, Option}
use Rattle.client_model.specs.declared.form.CallSite.{CallSite}
use Rattle.client_model.specs.declared.form.Procedure.{Procedure}

-- the classes of its statics, None where one is opaque, its procedures, the start before those of the text, and its calls by
-- number
pub record ClientForm : Type 0 where
  pub statics : List (Option ℕ)
  pub procedures : List Procedure
  pub calls : List CallSite
