use Rattle.client_facts.specs.Flows.{IsClauseFact}
use Rattle.client_facts.specs.Held.{setting}
use Rattle.step_flows.proofs.Adding.{whole_from_Adds}
use Rattle.step_flows.proofs.Choosing.{IfOk-then}
use Rattle.step_flows.proofs.clauses.clause_facts.Goals as goal

pub returns-clause-facts : goal.returns-clause-facts
returns-clause-facts c =
    IfOk-then c.into_facts.result
    (λ v e. whole_from_Adds (IsClauseFact (setting c.args.setting.now) c.args.call c.args.clause) c.new-facts.result c.add_clause_facts.new.facts v.items
    c.new-facts.ensures e c.in_ok-add_clause_facts.ensures)
    c.into_facts.ensures.facts
