use Rattle.walk_laws.proofs.Exact.{walks_are_exact}
use Rattle.walk_laws.proofs.laws.walks_are_exact.Goals as goal

pub returns : goal.returns
returns c = walks_are_exact
