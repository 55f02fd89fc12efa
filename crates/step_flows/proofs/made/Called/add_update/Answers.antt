use Rattle.step_flows.proofs.Nexts.{update_given}
use Rattle.step_flows.proofs.made.Called.add_update.Goals as goal

pub returns : goal.returns
returns c = update_given _ _ _ _ _ _ _ _ c.as_slice.result.now _ _ c.if-update-self.false c.as_slice.ensures c.in_ok-add_by_some.ensures
