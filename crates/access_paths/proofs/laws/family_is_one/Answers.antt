use Rattle.access_paths.proofs.Instances.{one_family}
use Rattle.access_paths.proofs.laws.family_is_one.Goals as goal

pub returns : goal.returns
returns c = one_family
