use Rattle.std.proofs.Common.{◌≡◌, drop}
use Rattle.std.specs.List.{flat_map}
use Rattle.easl_model.specs.{excess_of_class}
use Rattle.easl_parser.specs.Tallies.{first_from}
use Rattle.easl_parser.proofs.limits.excess_of_classes.Given as goal

abbrev pub invariant-each : goal.invariant-each
invariant-each l =
    first_from l.found (flat_map excess_of_class (drop l.class-index l.classes))
    ≡ first_from l.fn.start (flat_map excess_of_class l.classes)
