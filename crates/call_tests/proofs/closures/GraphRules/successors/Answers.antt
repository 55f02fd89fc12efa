use Rattle.cv_fix.proofs.Last.{answer_at_last}
use Rattle.call_tests.proofs.closures.GraphRules.successors.Goals as goal

pub returns : goal.returns
returns c = answer_at_last c.targets.result _ c.args.so_far.now c.args.at _ c.requires.at c.targets.ensures
