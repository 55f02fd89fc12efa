use Rattle.std.proofs.Common.{arith}
use Rattle.step_flows.proofs.Adding.{Adds-all, Adds-more, Adds-none}
use Rattle.step_flows.proofs.made.Made.add_by_some.Goals as goal

pub each-init : goal.each-init
each-init c = Adds-none _ c.args.disjuncts.now _

pub each-preserved : goal.each-preserved
each-preserved c = Adds-more _ c.args.disjuncts.now c.each.disjunct-index c.disjunct-item.result _ _ _ c.each-test.true c.disjunct-item.is c.each.invariant
    c.in_ok-add_by.ensures

pub returns : goal.returns
returns c = Adds-all _ c.args.disjuncts.now c.each.disjunct-index _ _ (omega arith) c.each.invariant
