use Rattle.std.proofs.Common.{[], take}
use Rattle.client_facts.specs.Flows.{IsPut, names_of_update}
use Rattle.step_flows.specs.Adding.{Adds, IsBySome}
use Rattle.step_flows.proofs.names.Asked.add_puts.Given as goal

abbrev pub invariant-each : goal.invariant-each
invariant-each l = Adds (IsBySome (IsPut (names_of_update l.self.results [] l.self.method.now l.self.site.now)) (take l.disjunct-index l.disjuncts))
    l.initial.facts l.facts
