use Rattle.client_steps.proofs.Exist as exist
use Rattle.client_steps.proofs.Once as once
use Rattle.client_steps.proofs.laws.runs_once.Goals as goal

pub returns-clause-some : goal.returns-clause-some
returns-clause-some c = exist.runs_exist

pub returns-clause-one : goal.returns-clause-one
returns-clause-one c = once.runs_once
