use Rattle.client_model.proofs.Kept as kept
use Rattle.client_model.proofs.Wholes as wholes
use Rattle.client_model.proofs.laws.steps_keep_names.Goals as goal

pub returns-clause-statements : goal.returns-clause-statements
returns-clause-statements c = kept.bodies_keep_names

pub returns-clause-points : goal.returns-clause-points
returns-clause-points c = wholes.steps_keep
