use Rattle.std.proofs.Common.{◌≡◌, ◌++◌, drop, map}
use Rattle.easl_model.specs.{clause_of, clauses, tests_of}
use Rattle.easl_types.proofs.form.+condition.Given as goal

abbrev pub invariant-tests_of-each : goal.invariant-tests_of-each
invariant-tests_of-each l =
    l.tests ++ tests_of l.spec l.context (clauses (map clause_of (drop l.part-index l.parts)))
    ≡ tests_of l.spec l.context (clauses (map clause_of l.parts))
