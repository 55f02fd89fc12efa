use Rattle.step_flows.proofs.Nexts.{all_copies}
use Rattle.step_flows.proofs.next.Next.add_copied.Goals as goal

pub returns : goal.returns
returns c = all_copies _ _ _ _ _ _ _ c.in_ok-lists.lists.items c.as_slice.result.now _ _ c.as_slice.ensures.value c.in_ok-lists.ensures
    c.in_ok-add_copies.ensures
