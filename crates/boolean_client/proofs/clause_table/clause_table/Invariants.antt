use Rattle.client_facts.specs.Held.{setting}
use Rattle.boolean_client.specs.ClauseTables.{AreClauseFacts}
use Rattle.boolean_client.proofs.clause_table.clause_table.Given as goal

abbrev pub invariant-each : goal.invariant-each
invariant-each l = AreClauseFacts (setting l.setting) l.call l.table.items
