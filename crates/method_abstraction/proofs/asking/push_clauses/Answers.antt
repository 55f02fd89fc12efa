use Rattle.method_abstraction.proofs.Asked.{one_more_clause}
use Rattle.method_abstraction.proofs.asking.push_clauses.Goals as goal

pub each-preserved : goal.each-preserved
each-preserved c = one_more_clause c.args.method c.each.index _ _ _ c.each.invariant c.in_ok-push.ensures
