use Rattle.std.proofs.Common.{◌≡◌, drop}
use Rattle.easl_model.specs.{constructors_in, first_with, second_constructors}
use Rattle.easl_model.specs.Faults.{comes_before}
use Rattle.easl_types.specs.Constructors.{constructors_behind}
use Rattle.easl_types.proofs.headers.second_constructors.Given as goal

abbrev pub invariant-each : goal.invariant-each
invariant-each l =
    first_with comes_before l.found (constructors_behind l.is_second (constructors_in (drop l.member-index l.members)))
    ≡ first_with comes_before l.fn.start (second_constructors (constructors_in l.members))
