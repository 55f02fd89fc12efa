use Rattle.std.proofs.Common.{arith}
use Rattle.step_flows.proofs.Longer.{lengthened-all, lengthened-more}
use Rattle.step_flows.proofs.fronts.lengthened.Goals as goal

pub each-preserved : goal.each-preserved
each-preserved c =
    lengthened-more c.each.longer.items c.add_longer.new.longer.items c.args.fronts.now c.args.codes.now c.front-item.result c.each.front-index
    c.each-test.true c.front-item.is
    c.in_ok-add_longer.ensures.kept c.each.invariant c.in_ok-add_longer.ensures.added

pub returns : goal.returns
returns c = lengthened-all c.each.longer.items c.args.fronts.now c.args.codes.now c.each.front-index (omega arith) c.each.invariant
