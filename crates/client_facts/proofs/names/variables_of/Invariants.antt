use Rattle.client_facts.specs.NameLists.{lists_in}
use Rattle.client_facts.proofs.ListedNames.{AreListedTo}
use Rattle.client_model.specs.Codes.{variable_code}
use Rattle.client_facts.proofs.names.variables_of.Given as goal

abbrev pub invariant-each : goal.invariant-each
invariant-each l = AreListedTo variable_code l.kinds l.number (lists_in l.lists.items)
