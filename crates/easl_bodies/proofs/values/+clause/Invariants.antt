use Rattle.std.proofs.Common.{◌≡◌, drop, map}
use Rattle.easl_model.specs.{clause_of, clauses, faults_of_clauses, first_with}
use Rattle.easl_model.specs.Faults.{comes_before}
use Rattle.easl_bodies.proofs.values.+clause.Given as goal

abbrev pub invariant-faults_of_clauses-each : goal.invariant-faults_of_clauses-each
invariant-faults_of_clauses-each l =
    first_with comes_before l.found (faults_of_clauses l.spec l.context (clauses (map clause_of (drop l.part-index l.parts))))
    ≡ first_with comes_before l.fn.start (faults_of_clauses l.spec l.context (clauses (map clause_of l.parts)))
