use Rattle.std.proofs.Common.{ℕ, Option, ap}
use Rattle.client_model.specs.declared.form.Point.TheVariants as point
use Rattle.step_flows.proofs.Following.{over_asking, over_here, over_test}
use Rattle.step_flows.proofs.next.Next.add_after_test.Goals as goal

pub returns-in_ok-add_same-in-None : goal.returns-in_ok-add_same-in-None
returns-in_ok-add_same-in-None c =
    over_here _ _ _ _ _ _ _ _ (ap (λ (v : Option ℕ). point.Branch v) c.in-None.is) (over_test _ _ _ _ _ _ c.in_ok-add_same-in-None.ensures)

pub returns-in_ok-add_after_call-in-Some : goal.returns-in_ok-add_after_call-in-Some
returns-in_ok-add_after_call-in-Some c =
    over_here _ _ _ _ _ _ _ _ (ap (λ (v : Option ℕ). point.Branch v) c.in-Some.is) (over_asking _ _ _ _ _ _ _ c.in_ok-add_after_call-in-Some.ensures)
