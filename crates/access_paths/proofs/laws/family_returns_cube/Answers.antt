use Rattle.access_paths.proofs.Instances.{family_returns}
use Rattle.access_paths.proofs.laws.family_returns_cube.Goals as goal

pub returns : goal.returns
returns c = family_returns
