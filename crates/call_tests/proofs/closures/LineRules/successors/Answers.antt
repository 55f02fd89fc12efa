use Rattle.cv_fix.proofs.Last.{answer_at_last}
use Rattle.call_tests.proofs.closures.LineRules.successors.Goals as goal

pub returns : goal.returns
returns c = answer_at_last c.next.result _ c.args.so_far.now c.args.at _ c.requires.at c.next.ensures
