use Rattle.std.proofs.Common.{arith}
use Rattle.step_flows.proofs.Longer.{Has-all, Has-push, kept-push}
use Rattle.step_flows.proofs.fronts.add_longer.Goals as goal

pub each-preserved : goal.each-preserved
each-preserved c = record {
  kept = kept-push c.args.longer.now.items c.each.longer.items c.push.new.self.items _ c.in_ok-push.ensures.items c.each.invariant.kept;
  added = Has-push c.each.longer.items c.push.new.self.items c.args.front.now c.args.codes.now c.in_ok-with.field-0 c.each.code-index c.each-test.true
      c.in_ok-push.ensures.items
      c.in_ok-with.ensures c.each.invariant.added;
}

pub returns-clause-added : goal.returns-clause-added
returns-clause-added c = Has-all c.each.longer.items c.args.front.now c.args.codes.now c.each.code-index (omega arith) c.each.invariant.added
