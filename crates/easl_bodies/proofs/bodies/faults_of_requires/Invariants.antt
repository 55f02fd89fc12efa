use Rattle.std.proofs.Common.{◌≡◌, drop, map}
use Rattle.easl_model.specs.{clause_of, clauses, faults_of_clauses, first_with}
use Rattle.easl_model.specs.Faults.{comes_before}
use Rattle.easl_bodies.proofs.bodies.faults_of_requires.Given as goal

abbrev pub invariant-each : goal.invariant-each
invariant-each l =
    first_with comes_before l.found (faults_of_clauses l.spec l.context (clauses (map (λ c. clause_of c.condition) (drop l.clause-index l.conditions))))
    ≡ first_with comes_before l.fn.start (faults_of_clauses l.spec l.context (clauses (map (λ c. clause_of c.condition) l.conditions)))
