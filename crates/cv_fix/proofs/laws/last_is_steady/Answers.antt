use Rattle.cv_fix.proofs.Last.{IsSteady-by_last}
use Rattle.cv_fix.proofs.laws.last_is_steady.Goals as goal

pub returns : goal.returns
returns g c = λ f. IsSteady-by_last f
