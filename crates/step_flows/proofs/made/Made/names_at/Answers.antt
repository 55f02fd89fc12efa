use Rattle.step_flows.proofs.Choosing.{IfOk-then}
use Rattle.step_flows.proofs.made.Made.names_at.Goals as goal

pub returns-in-Some : goal.returns-in-Some
returns-in-Some c = IfOk-then c.only_name.result (λ v h. λ args code right at name. h code (c.in-Some.ensures args code right at) name) c.only_name.ensures

pub returns-in-None : goal.returns-in-None
returns-in-None c = IfOk-then c.all_names.result (λ v h. λ args code right at name. h code name) c.all_names.ensures
