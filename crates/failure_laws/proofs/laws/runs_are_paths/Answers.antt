use Rattle.failure_laws.proofs.Paths.{runs_are_paths}
use Rattle.failure_laws.proofs.laws.runs_are_paths.Goals as goal

pub returns : goal.returns
returns c = runs_are_paths
