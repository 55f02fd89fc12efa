use Rattle.method_abstraction.proofs.Asked.{clauses_added}
use Rattle.method_abstraction.proofs.asking.clause_questions.Goals as goal

pub each-preserved : goal.each-preserved
each-preserved c =
    clauses_added c.each.number _ c.args.spec.now.methods _ _ _ _ c.method.ensures.value c.clause_count.ensures.count c.in_ok-push_clauses.ensures c.each.invariant
