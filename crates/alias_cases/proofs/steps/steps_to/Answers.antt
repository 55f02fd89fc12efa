use Rattle.std.proofs.Common.{arith, sym}
use Rattle.alias_cases.specs.{IsStepTo}
use Rattle.alias_cases.proofs.Turns.{zip_more}
use Rattle.alias_cases.proofs.steps.steps_to.Goals as goal

pub each-preserved : goal.each-preserved
each-preserved c =
    rw c.in_ok-push.ensures.items
    (zip_more (IsStepTo c.args.terms.now) c.args.terms.now c.each.steps.items c.each.term-index c.term-item.result c.step_to.result (omega (arith, c.each-test.true)) (sym c.term-item.is) c.each.invariant c.step_to.ensures)
