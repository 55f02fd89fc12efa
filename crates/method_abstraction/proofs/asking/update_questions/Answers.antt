use Rattle.method_abstraction.proofs.Asked.{updates_added}
use Rattle.method_abstraction.proofs.asking.update_questions.Goals as goal

pub each-preserved : goal.each-preserved
each-preserved c =
    updates_added c.args.number c.args.family.now c.each.method c.args.spec.now.methods _ _ _ _ c.method.ensures.value c.in_ok-push_updates.ensures c.each.invariant
