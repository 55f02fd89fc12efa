use Rattle.client_steps.proofs.Alike as alike
use Rattle.client_steps.proofs.Corollaries as follows
use Rattle.client_steps.proofs.laws.more_keeps.Goals as goal

pub returns-clause-keeps : goal.returns-clause-keeps
returns-clause-keeps c = alike.more_keeps

pub returns-clause-one : goal.returns-clause-one
returns-clause-one c = follows.uncut_is_one
