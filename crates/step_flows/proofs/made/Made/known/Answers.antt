use Rattle.step_flows.proofs.Choosing.{known_right, taken_right}
use Rattle.step_flows.proofs.made.Made.known.Goals as goal

pub returns-then-takes_result : goal.returns-then-takes_result
returns-then-takes_result c = λ args code right at. taken_right _ _ _ _ _ _ args _ code c.if-takes_result.ensures right at

pub returns-in-Some : goal.returns-in-Some
returns-in-Some c = λ args code right at. known_right _ _ _ _ _ _ args _ _ code c.in-Some.ensures right at
