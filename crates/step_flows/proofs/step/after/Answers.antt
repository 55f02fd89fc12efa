use Rattle.client_facts.specs.Held.{setting}
use Rattle.client_facts.specs.Over.{IsAfter}
use Rattle.step_flows.proofs.Adding.{whole_from_Adds}
use Rattle.step_flows.proofs.Choosing.{IfOk-then}
use Rattle.step_flows.proofs.step.after.Goals as goal

pub returns-clause-follow : goal.returns-clause-follow
returns-clause-follow c =
    IfOk-then c.into_facts.result
    (λ v e. whole_from_Adds (IsAfter (setting c.args.setting.now) c.args.procedure c.args.point c.args.fact.now) c.new-facts.result c.add_after.new.facts
    v.items c.new-facts.ensures e c.in_ok-add_after.ensures)
    c.into_facts.ensures.facts
