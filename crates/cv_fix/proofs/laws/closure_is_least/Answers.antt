use Rattle.cv_fix.proofs.Least.{IsLeast-closure}
use Rattle.cv_fix.proofs.laws.closure_is_least.Goals as goal

pub returns : goal.returns
returns g c = λ rules starts items steady closure.
    IsLeast-closure (g.R.Rules.follows rules) g.R.Item.PartialEq.eq g.met.R.Item.Eq.laws.refl g.met.R.Item.Twin.exact starts items closure steady
