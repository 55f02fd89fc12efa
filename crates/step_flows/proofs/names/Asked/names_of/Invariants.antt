use Rattle.std.proofs.Common.{take}
use Rattle.client_facts.specs.Flows.{names_of_update}
use Rattle.step_flows.specs.Put.{AreNamed}
use Rattle.step_flows.proofs.names.Asked.names_of.Given as goal

abbrev pub invariant-each : goal.invariant-each
invariant-each l = AreNamed (names_of_update l.self.results l.codes l.self.method.now l.self.site.now) (take l.var-index l.vars) l.made.items
