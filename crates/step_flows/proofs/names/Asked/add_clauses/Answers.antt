use Rattle.std.proofs.Common.{arith}
use Rattle.step_flows.proofs.Adding.{Adds-all, Adds-more, Adds-none}
use Rattle.step_flows.proofs.names.Asked.add_clauses.Goals as goal

pub each-init : goal.each-init
each-init c = Adds-none _ c.args.entries.now _

pub each-preserved : goal.each-preserved
each-preserved c = Adds-more _ c.args.entries.now c.each.entry-index c.entry-item.result _ _ _ c.each-test.true c.entry-item.is c.each.invariant
    c.in_ok-add_clause.ensures

pub returns : goal.returns
returns c = Adds-all _ c.args.entries.now c.each.entry-index _ _ (omega arith) c.each.invariant
