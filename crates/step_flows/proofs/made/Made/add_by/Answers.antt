use Rattle.step_flows.proofs.Nexts.{all_made}
use Rattle.step_flows.proofs.made.Made.add_by.Goals as goal

pub returns : goal.returns
returns c = all_made _ _ _ _ _ _ _ _ _ _ c.in_ok-lists.lists.items c.as_slice.result.now _ _ c.as_slice.ensures.value c.in_ok-lists.ensures
    c.in_ok-add_each.ensures
