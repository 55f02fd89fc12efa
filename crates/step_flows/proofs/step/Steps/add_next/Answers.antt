use Rattle.step_flows.proofs.Following.{over_here, over_nothing, over_procedure}
use Rattle.step_flows.proofs.step.Steps.add_next.Goals as goal

pub returns-in_ok-add_after_copy-in-Copy : goal.returns-in_ok-add_after_copy-in-Copy
returns-in_ok-add_after_copy-in-Copy c = over_here _ _ _ _ _ _ _ _ c.in-Copy.is c.in_ok-add_after_copy-in-Copy.ensures

pub returns-in_ok-add_after_call-in-Component : goal.returns-in_ok-add_after_call-in-Component
returns-in_ok-add_after_call-in-Component c = over_here _ _ _ _ _ _ _ _ c.in-Component.is c.in_ok-add_after_call-in-Component.ensures

pub returns-in_ok-add_always-in-Call : goal.returns-in_ok-add_always-in-Call
returns-in_ok-add_always-in-Call c = over_here _ _ _ _ _ _ _ _ c.in-Call.is
    (over_procedure _ _ _ _ _ _ _ (λ family args h. h) c.in_ok-add_always-in-Call.ensures)

pub returns-in_ok-add_after_test-in-Branch : goal.returns-in_ok-add_after_test-in-Branch
returns-in_ok-add_after_test-in-Branch c = over_here _ _ _ _ _ _ _ _ c.in-Branch.is c.in_ok-add_after_test-in-Branch.ensures

pub returns-in_ok-add_same-in-Nothing : goal.returns-in_ok-add_same-in-Nothing
returns-in_ok-add_same-in-Nothing c = over_here _ _ _ _ _ _ _ _ c.in-Nothing.is (over_nothing _ _ _ _ _ _ c.in_ok-add_same-in-Nothing.ensures)
