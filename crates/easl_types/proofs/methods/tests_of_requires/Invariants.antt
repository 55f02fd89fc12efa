use Rattle.std.proofs.Common.{◌≡◌, ◌++◌, drop, map}
use Rattle.easl_model.specs.{clause_of, clauses, tests_of}
use Rattle.easl_types.proofs.methods.tests_of_requires.Given as goal

abbrev pub invariant-each : goal.invariant-each
invariant-each l =
    l.tests ++ tests_of l.spec l.context (clauses (map (λ c. clause_of c.condition) (drop l.clause-index l.conditions)))
    ≡ tests_of l.spec l.context (clauses (map (λ c. clause_of c.condition) l.conditions))
