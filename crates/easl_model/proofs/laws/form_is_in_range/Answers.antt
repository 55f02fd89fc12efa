use Rattle.easl_model.proofs.InRange.{form_in_range}
use Rattle.easl_model.proofs.laws.form_is_in_range.Goals as goal

pub returns : goal.returns
returns c = form_in_range
