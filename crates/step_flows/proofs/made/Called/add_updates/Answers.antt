use Rattle.std.proofs.Common.{arith}
use Rattle.step_flows.proofs.Adding.{Adds-all, Adds-more, Adds-none}
use Rattle.step_flows.proofs.made.Called.add_updates.Goals as goal

pub each-init : goal.each-init
each-init c = Adds-none _ c.args.updates.now _

pub each-preserved : goal.each-preserved
each-preserved c = Adds-more _ c.args.updates.now c.each.update-index c.update-item.result _ _ _ c.each-test.true c.update-item.is c.each.invariant
    c.in_ok-add_update.ensures

pub returns : goal.returns
returns c = Adds-all _ c.args.updates.now c.each.update-index _ _ (omega arith) c.each.invariant
