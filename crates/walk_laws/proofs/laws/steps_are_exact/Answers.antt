use Rattle.walk_laws.proofs.Calling.{steps_are_exact}
use Rattle.walk_laws.proofs.laws.steps_are_exact.Goals as goal

pub returns : goal.returns
returns c = steps_are_exact
