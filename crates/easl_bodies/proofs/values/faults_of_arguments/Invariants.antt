use Rattle.std.proofs.Common.{◌≡◌, drop}
use Rattle.easl_model.specs.{faults_of_arguments, first_with}
use Rattle.easl_model.specs.Faults.{comes_before}
use Rattle.easl_bodies.proofs.values.faults_of_arguments.Given as goal

abbrev pub invariant-each : goal.invariant-each
invariant-each l =
    first_with comes_before l.found (faults_of_arguments l.spec l.context l.params l.at (drop l.at l.arguments))
    ≡ first_with comes_before l.fn.start (faults_of_arguments l.spec l.context l.params 0 l.arguments)
