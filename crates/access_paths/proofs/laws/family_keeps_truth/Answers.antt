use Rattle.access_paths.proofs.Instances.{family_keeps_truth}
use Rattle.access_paths.proofs.laws.family_keeps_truth.Goals as goal

pub returns : goal.returns
returns c = family_keeps_truth
