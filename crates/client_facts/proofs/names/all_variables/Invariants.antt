use Rattle.client_facts.specs.Held.{setting}
use Rattle.client_facts.proofs.ListedNames.{AreTables}
use Rattle.client_facts.proofs.names.all_variables.Given as goal

abbrev pub invariant-each : goal.invariant-each
invariant-each l = AreTables (setting l.setting) l.procedure l.tables.items
