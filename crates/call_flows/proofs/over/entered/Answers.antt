use Rattle.call_flows.proofs.Crossed.{enters_there}
use Rattle.call_flows.proofs.Finding.{if_ok_then}
use Rattle.client_facts.specs.Held as held
use Rattle.call_flows.proofs.over.entered.Goals as goal

pub returns-clause-follow : goal.returns-clause-follow
returns-clause-follow c =
    if_ok_then c.into_facts.result
    (λ facts is. enters_there (held.setting c.args.setting.now) c.args.procedure c.args.point c.in-Some.site c.args.fact.now c.in_ok-facts.facts facts.items
    c.in-Some.ensures.at.0 c.in-Some.ensures.at.1 c.in-Some.ensures.stands is c.in_ok-facts.ensures)
    c.into_facts.ensures.facts
