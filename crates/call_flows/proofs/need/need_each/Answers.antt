use Rattle.std.proofs.Common.{arith}
use Rattle.call_flows.proofs.Needs.{three_done, three_more}
use Rattle.call_flows.specs.Needs.{Crosses}
use Rattle.call_flows.specs.Told.{call_told}
use Rattle.call_flows.proofs.need.need_each.Goals as goal

pub each-preserved : goal.each-preserved
each-preserved c = λ x.
    three_more (Crosses c.args.crossing x (call_told c.args.site.now)) _ _ _ _ c.args.classes.now c.args.outer.now c.args.inner.now c.each.at
    (omega (arith, c.each-test.true)) c.requires.outer c.requires.inner (c.in_ok-add.ensures x) (c.need_on.ensures x) (c.each.invariant x)

pub returns : goal.returns
returns c = λ x.
    three_done (Crosses c.args.crossing x (call_told c.args.site.now)) _ _ c.args.classes.now c.args.outer.now c.args.inner.now c.each.at
    (omega (arith, c.each-test.false)) c.requires.outer c.requires.inner (c.each.invariant x)
