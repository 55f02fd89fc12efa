use Rattle.std.proofs.Common.{refl}
use Rattle.step_flows.proofs.Following.{on_procedure, on_way, on_ways, some_not}
use Rattle.step_flows.proofs.step.Steps.add_on.Goals as goal

pub returns-in-Call : goal.returns-in-Call
returns-in-Call c = on_procedure _ _ _ _ _ _ _ c.in-Call.is (λ e. some_not _ e)

pub returns-in_ok-add_next-in-Copy : goal.returns-in_ok-add_next-in-Copy
returns-in_ok-add_next-in-Copy c = on_way _ _ _ _ _ _ _ _ c.in-Copy.is refl (λ b. (λ h. h, λ h. h)) c.in_ok-add_next-in-Copy.ensures

pub returns-in_ok-add_next-in-Component : goal.returns-in_ok-add_next-in-Component
returns-in_ok-add_next-in-Component c = on_way _ _ _ _ _ _ _ _ c.in-Component.is refl (λ b. (λ h. h, λ h. h)) c.in_ok-add_next-in-Component.ensures

pub returns-in_ok-add_next-in-Nothing : goal.returns-in_ok-add_next-in-Nothing
returns-in_ok-add_next-in-Nothing c = on_way _ _ _ _ _ _ _ _ c.in-Nothing.is refl (λ b. (λ h. h, λ h. h)) c.in_ok-add_next-in-Nothing.ensures

pub returns-in_ok-add_next-in-Branch-2 : goal.returns-in_ok-add_next-in-Branch-2
returns-in_ok-add_next-in-Branch-2 c = on_ways _ _ _ _ _ _ _ _ _ c.in-Branch.is refl (λ b. tt) c.in_ok-add_next-in-Branch.ensures
    c.in_ok-add_next-in-Branch-2.ensures
