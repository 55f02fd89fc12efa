use Rattle.std.proofs.Common.{map, take}
use Rattle.case_model.specs.{terms_of_conditions}
use Rattle.easl_model.specs.{condition_of, conditions}
use Rattle.alias_cases.specs.{Gathers}
use Rattle.alias_cases.proofs.clauses.+gather_tests.Given as goal

abbrev pub invariant-gather_tests-each : goal.invariant-gather_tests-each
invariant-gather_tests-each l = Gathers (terms_of_conditions 3 (conditions (map condition_of (take l.test-index l.tests)))) l.fn.list.items l.list.items
