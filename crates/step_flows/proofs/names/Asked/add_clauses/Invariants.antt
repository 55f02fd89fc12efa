use Rattle.std.proofs.Common.{[], take}
use Rattle.client_facts.specs.Flows.{names_of_update}
use Rattle.step_flows.specs.Adding.{Adds, IsBySome}
use Rattle.step_flows.specs.Asking.{IsGivenBy}
use Rattle.step_flows.proofs.names.Asked.add_clauses.Given as goal

abbrev pub invariant-each : goal.invariant-each
invariant-each l = Adds (IsBySome (IsGivenBy (names_of_update l.self.results [] l.self.method.now l.self.site.now) l.self.site.now.method l.clause)
    (take l.entry-index l.entries)) l.initial.facts l.facts
