use Rattle.step_flows.proofs.Following.{copy_always, copy_of}
use Rattle.step_flows.proofs.next.Next.add_after_copy.Goals as goal

pub returns-in_ok-insert-in-Always : goal.returns-in_ok-insert-in-Always
returns-in_ok-insert-in-Always c = copy_always _ _ _ _ _ _ _ _ c.in-Always.is c.in_ok-insert-in-Always.ensures

pub returns-in_ok-add_copied-in-Of : goal.returns-in_ok-add_copied-in-Of
returns-in_ok-add_copied-in-Of c = copy_of _ _ _ _ _ _ _ _ c.as_slice.result.now _ _ c.in-Of.is c.as_slice.ensures c.in_ok-add_copied-in-Of.ensures
