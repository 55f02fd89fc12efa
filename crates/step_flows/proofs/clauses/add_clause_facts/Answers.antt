use Rattle.std.proofs.Common.{ap, ◌∙◌}
use Rattle.client_facts.specs.Held.{setting}
use Rattle.method_abstraction.specs.declared.entry.Abstraction.{Abstraction}
use Rattle.step_flows.proofs.Entries.{no_clauses, whole_clauses}
use Rattle.step_flows.proofs.clauses.add_clause_facts.Goals as goal

pub returns-in_default : goal.returns-in_default
returns-in_default c = no_clauses _ _ _ _ c.in_default.ensures

pub returns : goal.returns
returns c =
    let a = c.in-Some.asked in
    whole_clauses (setting c.args.setting.now) c.args.call c.args.clause a.site.now a.method.now a.results c.as_slice-entries.result.now _ _
    c.in-Some.ensures.0 c.in-Some.ensures.1
    (c.as_slice-entries.ensures ∙ ap (λ (v : Abstraction). v.clauses) c.abstraction.ensures) c.in_ok-add_clauses.ensures
