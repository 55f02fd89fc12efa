use Rattle.easl_model.proofs.BodyTypes.{form_typed}
use Rattle.easl_model.proofs.laws.form_is_typed.Goals as goal

pub returns : goal.returns
returns c = form_typed
