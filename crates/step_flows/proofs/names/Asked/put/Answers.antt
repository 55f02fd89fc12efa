use Rattle.step_flows.proofs.Putting.{put_some}
use Rattle.step_flows.proofs.names.Asked.put.Goals as goal

pub returns-in-Some : goal.returns-in-Some
returns-in-Some c = put_some _ _ _ _ _ _ _ c.in-Of.is c.as_slice.ensures c.in-Some.is c.in_ok-args-in-Of.ensures
