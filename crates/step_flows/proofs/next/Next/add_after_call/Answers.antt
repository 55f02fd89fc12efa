use Rattle.step_flows.proofs.Following.{over_call}
use Rattle.step_flows.proofs.next.Next.add_after_call.Goals as goal

pub returns : goal.returns
returns c = over_call _ _ _ _ _ _ _ _ _ c.in_ok-add_always.ensures c.in_ok-add_made.ensures
