-- Clients that fit a specification.
use Rattle.std.specs.Prelude.{◌≡◌}
use Rattle.client_model.specs.CheckedForm.{ClientForm, form_of}
use Rattle.client_model.specs.Rules.{IsWellFormed}
use Rattle.client_model.specs.Trees.{Client}
use Rattle.easl_model.specs.Form.{Form}

-- the checked form of a client that is well-formed for this specification
pub record Fits (form : Form) (c : ClientForm) : Type 0 where
  pub client : Client
  pub well_formed : IsWellFormed form client
  pub is : c ≡ form_of form client
