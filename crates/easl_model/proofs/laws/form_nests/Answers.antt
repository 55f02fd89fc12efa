use Rattle.easl_model.proofs.Nesting.{constructors_nest}
use Rattle.easl_model.proofs.laws.form_nests.Goals as goal

pub returns : goal.returns
returns c = constructors_nest
