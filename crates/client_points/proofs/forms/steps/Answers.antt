use Rattle.std.proofs.Common.{arith, suc}
use Rattle.client_points.proofs.Shapes.{step_passed, steps_in_end}
use Rattle.client_points.proofs.forms.steps.Goals as goal

pub each-preserved : goal.each-preserved
each-preserved c more is = step_passed c.each.point more c.each.nodes c.push.new.self _ c.in_ok-push.ensures.ok (c.each.invariant (suc more) (omega (arith, is)))

pub returns : goal.returns
returns c = steps_in_end c.each.point c.args.count c.each.nodes _ (omega (arith, c.each-test.false, c.each.auto.point-end)) c.each.invariant
