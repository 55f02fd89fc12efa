use Rattle.std.proofs.Common.{◌≡◌, drop, map}
use Rattle.std.specs.List.{flat_map}
use Rattle.easl_model.specs.{faults_of_body, first_with, method_body, methods_in}
use Rattle.easl_model.specs.Faults.{comes_before}
use Rattle.easl_types.proofs.classes.faults_of_methods.Given as goal

abbrev pub invariant-each : goal.invariant-each
invariant-each l =
    first_with comes_before l.found (flat_map (faults_of_body l.spec) (map (method_body l.number) (methods_in (drop l.member-index l.members))))
    ≡ first_with comes_before l.fn.start (flat_map (faults_of_body l.spec) (map (method_body l.number) (methods_in l.members)))
