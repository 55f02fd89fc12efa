use Rattle.std.proofs.Common.{arith}
use Rattle.set_names.proofs.Ascending.{goes_before, goes_behind}
use Rattle.set_names.proofs.spans.begun.Goals as goal

pub each-preserved-then-spans-middle : goal.each-preserved-then-spans-middle
each-preserved-then-spans-middle c = record {
  order = omega arith;
  count = c.each.invariant.count;
  begun = goes_behind c.args.spans.now c.args.point _ _ c.requires (omega arith) c.if-spans-middle.true;
  later = c.each.invariant.later;
}

pub each-preserved : goal.each-preserved
each-preserved c = record {
  order = omega arith;
  count = omega arith;
  begun = c.each.invariant.begun;
  later = goes_before c.args.spans.now c.args.point _ _ c.requires (omega arith) c.if-spans-middle.false;
}
