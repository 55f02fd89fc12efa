use Rattle.weakest_pre.proofs.Executing.{updated}
use Rattle.weakest_pre.proofs.branch.Branch.update.Goals as goal

pub returns : goal.returns
returns c =
    updated c.args.self.now.spec.now c.args.self.now.answers.now c.args.method.now c.args.family.now c.args.results
    c.in_ok-args.args.items c.in_ok-args.ensures
    c.called.new.effects.writes.items c.called.new.effects.count c.in_ok-given.given c.in_ok-given.ensures
    c.as_slice-writes.result.now c.as_slice-writes.ensures.value c.as_slice.result.now (rw (← c.in_ok-variables.ensures) c.as_slice.ensures.value)
    c.as_slice-literals.result.now c.as_slice-literals.ensures
    c.cube_after.result c.cube_after.ensures
