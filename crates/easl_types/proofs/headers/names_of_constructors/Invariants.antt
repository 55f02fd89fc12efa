use Rattle.std.proofs.Common.{◌≡◌, drop}
use Rattle.std.specs.List.{flat_map}
use Rattle.easl_model.specs.{constructors_in, first_with, other_name}
use Rattle.easl_model.specs.Faults.{comes_before}
use Rattle.easl_types.proofs.headers.names_of_constructors.Given as goal

abbrev pub invariant-each : goal.invariant-each
invariant-each l =
    first_with comes_before l.found (flat_map (other_name l.class) (constructors_in (drop l.member-index l.members)))
    ≡ first_with comes_before l.fn.start (flat_map (other_name l.class) (constructors_in l.members))
