use Rattle.std.proofs.Common.{◌≡◌, drop}
use Rattle.std.specs.List.{flat_map}
use Rattle.easl_model.specs.{bodies_from, faults_of_body, first_with}
use Rattle.easl_model.specs.Faults.{comes_before}
use Rattle.easl_types.proofs.classes.faults_of_classes.Given as goal

abbrev pub invariant-each : goal.invariant-each
invariant-each l =
    first_with comes_before l.found (flat_map (faults_of_body l.spec) (bodies_from l.class (drop l.class l.classes)))
    ≡ first_with comes_before l.fn.start (flat_map (faults_of_body l.spec) (bodies_from 0 l.classes))
