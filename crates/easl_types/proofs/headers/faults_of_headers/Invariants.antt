use Rattle.std.proofs.Common.{◌≡◌, drop}
use Rattle.std.specs.List.{flat_map}
use Rattle.easl_model.specs.{codes_in, faults_of_header, first_with}
use Rattle.easl_model.specs.Faults.{comes_before}
use Rattle.easl_types.proofs.headers.faults_of_headers.Given as goal

abbrev pub invariant-each : goal.invariant-each
invariant-each l =
    first_with comes_before l.found (flat_map (faults_of_header l.spec) (codes_in (drop l.member-index l.members)))
    ≡ first_with comes_before l.fn.start (flat_map (faults_of_header l.spec) (codes_in l.members))
