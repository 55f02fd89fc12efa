use Rattle.walk_laws.proofs.AlongPaths.{paths_are_exact}
use Rattle.walk_laws.proofs.laws.paths_are_exact.Goals as goal

pub returns : goal.returns
returns c = paths_are_exact
