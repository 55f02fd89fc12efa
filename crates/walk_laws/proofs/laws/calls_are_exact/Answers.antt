use Rattle.walk_laws.proofs.CallExact.{calls_are_exact}
use Rattle.walk_laws.proofs.laws.calls_are_exact.Goals as goal

pub returns : goal.returns
returns c = calls_are_exact
