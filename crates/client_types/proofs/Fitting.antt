-- The form of a client that breaks no rule.
use Rattle.std.proofs.Common.{◌≡◌}
use Rattle.std.specs.Prelude.{None}
use Rattle.client_model.proofs.Least.{none_is_well_formed}
use Rattle.client_model.specs.Checked.{IsFitting, seen}
use Rattle.client_model.specs.CheckedForm.{form_of}
use Rattle.client_model.specs.Program.{ClientForm}
use Rattle.client_model.specs.Rules.{first_fault}
use Rattle.client_model.specs.Trees.{Client}
use Rattle.easl_model.specs.Form.{Form}

pub fitting : (form : Form) (client : Client) (c : ClientForm) → first_fault form client ≡ None → seen c ≡ form_of form client → IsFitting form c
fitting form client c none is = record { client = client; well_formed = none_is_well_formed form client none; is = is }
