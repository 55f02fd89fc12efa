use Rattle.step_flows.proofs.Following.{after_end, after_nowhere, after_on}
use Rattle.step_flows.proofs.step.Steps.add_after.Goals as goal

pub returns-in_default : goal.returns-in_default
returns-in_default c = after_nowhere _ _ _ _ _ c.in_default.ensures

pub returns-in_default-ways : goal.returns-in_default-ways
returns-in_default-ways c = after_end _ _ _ _ _ c.in_default-ways.ensures

pub returns : goal.returns
returns c = after_on _ _ _ _ _ _ _ _ c.in-Some.ensures c.in-Some-ways.ensures c.in_ok-add_on.ensures
