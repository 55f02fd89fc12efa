use Rattle.std.proofs.Common.{rules, arith, ap, ◌∙◌, List, Bor}
use Rattle.easl_model.specs.{condition_of, statement_of, statements_of}
use Rattle.easl_model.specs.declared.form.Act.{Act}
use Rattle.easl_model.proofs.Folds.{if_act}
use Rattle.easl_heap.specs.{made, moment}
use Rattle.easl_heap.proofs.Branches.{branch_ended}
use Rattle.easl_heap.proofs.Called.{constructed}
use Rattle.easl_heap.proofs.Underway.{goes_on, stops}
use Rattle.easl_heap.proofs.body.+body.Goals as goal
use Rattle.easl_heap.proofs.body.+body.Goals.{step-then-holds, step-else-holds}

pub run-returns-then-steps-eq-MOST_STEPS-clause-comes :
    goal.run-returns-then-steps-eq-MOST_STEPS-clause-comes
run-returns-then-steps-eq-MOST_STEPS-clause-comes t c =
    stops _ _ _ c.each.act-index c.act-item.result _ _ c.each-test.true c.act-item.is c.if-steps-eq-MOST_STEPS.true c.each.invariant.comes

pub run-each-preserved : goal.run-each-preserved
run-each-preserved t c = record {
  grows = record {
    more = omega arith;
    most = omega arith;
    capacity = cc;
    grown = omega arith;
  };
  comes = goes_on _ _ _ c.each.act-index c.act-item.result _ _ _ c.each-test.true c.act-item.is c.step-steps.ensures.comes c.each.invariant.comes;
}

pub construct-returns-clause-gives : goal.construct-returns-clause-gives
construct-returns-clause-gives t c =
    constructed c.args.spec.now c.args.depth c.args.class c.args.args.now
    c.args.objects.now.items
    c.args.steps c.method-constructor.result.now c.add-object.result
    c.frame-slots.result.items
    c.add-object.new.objects.items
    (moment c.run-steps.new.objects.items c.run-steps.new.slots.items c.run-steps.result)
    (omega arith)
    (rw (← c.constructor.ensures.number) c.method-constructor.ensures.value)
    c.add-object.ensures.number
    c.add-object.ensures.items
    c.frame-slots.ensures
    (rw c.as_slice-acts.ensures at c.run-steps.ensures.comes)
    c.method-constructor.ensures.limits

pub step-returns-after-holds-clause-comes : goal.step-returns-after-holds-clause-comes
step-returns-after-holds-clause-comes t c =
    branch_ended (made c.args.spec.now c.args.depth)
    (statement_of c.args.act.now)
    (condition_of c.in-If.test) (statements_of c.in-If.first) (statements_of c.in-If.second) (statements_of c.if-holds.acts.now)
    (moment c.args.objects.now.items c.args.slots.now.items c.args.steps)
    (moment c.run-steps.new.objects.items c.run-steps.new.slots.items c.run-steps.result)
    c.truncate.new.self.items
    c.holds.result
    (ap statement_of c.in-If.is ∙ if_act c.in-If.test c.in-If.first c.in-If.second)
    (search rules)
    (elim c.if-holds.branch [
      | step-then-holds w ↦ rw w.if-holds.true (ap statements_of (ap (λ (x : Bor (List Act)). x.now) w.acts-is ∙ w.as_slice-acts.ensures))
      | step-else-holds w ↦ rw w.if-holds.false (ap statements_of (ap (λ (x : Bor (List Act)). x.now) w.acts-is ∙ w.as_slice-acts-else-holds.ensures))
    ])
    c.run-steps.ensures.comes
    (search rules)
