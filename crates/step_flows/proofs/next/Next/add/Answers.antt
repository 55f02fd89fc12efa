use Rattle.step_flows.proofs.Nexts.{no_fact, one_fact}
use Rattle.step_flows.proofs.next.Next.add.Goals as goal

pub returns-then-not-is_fact : goal.returns-then-not-is_fact
returns-then-not-is_fact c = no_fact _ _ _ _ c.is_fact.result _ c.if-not-is_fact.true c.is_fact.ensures.only

pub returns : goal.returns
returns c = one_fact _ _ _ _ c.is_fact.result _ _ c.if-not-is_fact.false c.is_fact.ensures.stands c.in_ok-insert.ensures
