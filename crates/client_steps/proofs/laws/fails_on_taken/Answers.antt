use Rattle.client_steps.proofs.Alike as alike
use Rattle.client_steps.proofs.Corollaries as follows
use Rattle.client_steps.proofs.laws.fails_on_taken.Goals as goal

pub returns-clause-taken : goal.returns-clause-taken
returns-clause-taken c = alike.fails_on_taken

pub returns-clause-safe : goal.returns-clause-safe
returns-clause-safe c = follows.safe_by_spent
