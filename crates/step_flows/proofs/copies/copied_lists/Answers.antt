use Rattle.std.proofs.Common.{arith}
use Rattle.step_flows.proofs.Longer.{copied_lists-all, copied_lists-more}
use Rattle.step_flows.proofs.copies.copied_lists.Goals as goal

pub each-preserved : goal.each-preserved
each-preserved c =
    copied_lists-more c.args.target c.args.source c.args.before.now c.each.code-index c.each.lists.items c.as_slice.result.now c.in_ok-lists-2.lists.items
    c.in_ok-names.names.items
    c.as_slice-in-each.result.now c.as_slice.ensures.value c.as_slice-in-each.ensures.value c.each-test.true c.each.invariant c.in_ok-lists-2.ensures
    c.in_ok-names.ensures

pub returns : goal.returns
returns c = copied_lists-all c.args.target c.args.source c.args.before.now c.each.code-index c.each.lists.items (omega arith) c.each.invariant
