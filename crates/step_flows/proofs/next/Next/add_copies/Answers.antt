use Rattle.std.proofs.Common.{arith}
use Rattle.step_flows.proofs.Adding.{Adds-all, Adds-more, Adds-none}
use Rattle.step_flows.proofs.next.Next.add_copies.Goals as goal

pub each-init : goal.each-init
each-init c = Adds-none _ c.args.lists.now _

pub each-preserved : goal.each-preserved
each-preserved c = Adds-more _ c.args.lists.now c.each.args-index c.args-item.result _ _ _ c.each-test.true c.args-item.is c.each.invariant
    c.in_ok-add_copy.ensures

pub returns : goal.returns
returns c = Adds-all _ c.args.lists.now c.each.args-index _ _ (omega arith) c.each.invariant
