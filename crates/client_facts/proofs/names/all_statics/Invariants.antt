use Rattle.client_facts.specs.NameLists.{lists_in}
use Rattle.client_facts.proofs.ListedNames.{AreListedTo}
use Rattle.client_model.specs.Codes.{static_code}
use Rattle.client_facts.proofs.names.all_statics.Given as goal

abbrev pub invariant-each : goal.invariant-each
invariant-each l = AreListedTo static_code l.client.statics l.number (lists_in l.lists.items)
