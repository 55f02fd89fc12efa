use Rattle.derivation.proofs.OneEnd.{ends_once}
use Rattle.derivation.proofs.laws.derivation_ends_once.Goals as goal

pub returns : goal.returns
returns c = ends_once
