use Rattle.std.proofs.Common.{arith, ap, ◌∙◌}
use Rattle.easl_model.specs.{condition_of, statement_of, statements_of}
use Rattle.easl_model.proofs.Folds.{if_act}
use Rattle.question_model.specs.{made, state}
use Rattle.weakest_pre.specs.Running.{most}
use Rattle.weakest_pre.proofs.Executing.{construct_ends, construct_stops, if_leaves}
use Rattle.weakest_pre.proofs.branch.Branch.+body.Goals as goal

pub construct-returns : goal.construct-returns
construct-returns t c =
    construct_stops c.args.self.now.spec.now c.args.self.now.answers.now c.args.class c.args.effects.now.count c.args.args.items c.args.effects.now.writes.items
    c.args.depth (omega arith) c.method-constructor.result.now (rw (← c.constructor.ensures.number) c.method-constructor.ensures.value)
    c.as_slice.result.now c.as_slice.ensures c.in_ok-slots.slots.items c.in_ok-slots.ensures c.in-Err.stop c.in-Err.ensures

pub construct-returns-in-Ok : goal.construct-returns-in-Ok
construct-returns-in-Ok t c =
    construct_ends c.args.self.now.spec.now c.args.self.now.answers.now c.args.class c.args.effects.now.count c.args.args.items c.args.effects.now.writes.items
    c.args.depth (omega arith) c.method-constructor.result.now (rw (← c.constructor.ensures.number) c.method-constructor.ensures.value)
    c.as_slice.result.now c.as_slice.ensures c.in_ok-slots.slots.items c.in_ok-slots.ensures
    (state c.run.new.slots.items c.run.new.effects.writes.items c.run.new.effects.count) c.in-Ok.ensures

pub step-returns-then-branch : goal.step-returns-then-branch
step-returns-then-branch t c =
    if_leaves c.args.self.now.spec.now c.args.self.now.answers.now (made c.args.self.now.spec.now most c.args.self.now.answers.now c.args.depth)
    (statement_of c.args.act.now) (condition_of c.in-If.test) (statements_of c.in-If.first) (statements_of c.in-If.second)
    (statements_of c.as_slice-then-branch.result.now)
    (ap statement_of c.in-If.is ∙ if_act c.in-If.test c.in-If.first c.in-If.second)
    (state c.args.slots.now.items c.args.effects.now.writes.items c.args.effects.now.count)
    c.in_ok-holds-in-If.field-0 (rw c.as_slice-in-If.ensures.value at c.in_ok-holds-in-If.ensures)
    (rw c.if-branch.true (ap statements_of c.as_slice-then-branch.ensures))
    c.block.result (state c.block.new.slots.items c.block.new.effects.writes.items c.block.new.effects.count)
    c.block.ensures

pub step-returns-else-branch : goal.step-returns-else-branch
step-returns-else-branch t c =
    if_leaves c.args.self.now.spec.now c.args.self.now.answers.now (made c.args.self.now.spec.now most c.args.self.now.answers.now c.args.depth)
    (statement_of c.args.act.now) (condition_of c.in-If.test) (statements_of c.in-If.first) (statements_of c.in-If.second)
    (statements_of c.as_slice-else-branch.result.now)
    (ap statement_of c.in-If.is ∙ if_act c.in-If.test c.in-If.first c.in-If.second)
    (state c.args.slots.now.items c.args.effects.now.writes.items c.args.effects.now.count)
    c.in_ok-holds-in-If.field-0 (rw c.as_slice-in-If.ensures.value at c.in_ok-holds-in-If.ensures)
    (rw c.if-branch.false (ap statements_of c.as_slice-else-branch.ensures))
    c.block-else-branch.result (state c.block-else-branch.new.slots.items c.block-else-branch.new.effects.writes.items c.block-else-branch.new.effects.count)
    c.block-else-branch.ensures
