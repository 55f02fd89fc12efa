use Rattle.question_model.specs.{state}
use Rattle.weakest_pre.proofs.Executing.{method_leaves}
use Rattle.weakest_pre.proofs.branch.Branch.called.Goals as goal

pub returns : goal.returns
returns c =
    method_leaves c.args.self.now.spec.now c.args.self.now.answers.now c.args.method.now c.args.args.items
    c.class_count-depth.result c.class_count-depth.ensures.count c.if-method.false
    c.as_slice.result.now c.as_slice.ensures c.args.effects.now.writes.items c.requires.writes c.args.effects.now.count c.requires.count
    (state c.run.new.slots.items c.run.new.effects.writes.items c.run.new.effects.count) c.in_ok-run.ensures
    c.returned.result c.returned.new.effects.writes.items c.returned.new.effects.count
    (rw c.as_slice-2.ensures.value at c.returned.ensures)
