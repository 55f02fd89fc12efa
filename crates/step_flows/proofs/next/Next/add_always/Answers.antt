use Rattle.step_flows.proofs.Following.{always_not, always_so}
use Rattle.step_flows.proofs.Tests.{true_so}
use Rattle.step_flows.proofs.next.Next.add_always.Goals as goal

pub returns-then-not-is_always : goal.returns-then-not-is_always
returns-then-not-is_always c = always_not _ _ c.if-not-is_always.ensures.not_so

pub returns : goal.returns
returns c = always_so _ _ _ (true_so c.is_always.result c.if-not-is_always.false c.is_always.ensures.so) c.in_ok-insert.ensures
