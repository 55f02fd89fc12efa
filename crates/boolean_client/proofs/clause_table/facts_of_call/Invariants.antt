use Rattle.client_facts.specs.Held.{setting}
use Rattle.boolean_client.specs.ClauseTables.{AreFirstFacts}
use Rattle.boolean_client.proofs.clause_table.facts_of_call.Given as goal

abbrev pub invariant-each : goal.invariant-each
invariant-each l = AreFirstFacts (setting l.setting) l.call l.number l.row.items
