use Rattle.client_model.proofs.Least as proofs
use Rattle.client_model.proofs.laws.first_is_least.Goals as goal

pub returns-clause-least : goal.returns-clause-least
returns-clause-least c = proofs.first_is_least

pub returns-clause-none : goal.returns-clause-none
returns-clause-none c = proofs.none_is_well_formed
