use Rattle.std.proofs.Common.{◌≡◌, drop}
use Rattle.std.specs.List.{flat_map}
use Rattle.easl_model.specs.{codes_in, excess_of_code}
use Rattle.easl_parser.specs.Tallies.{first_from}
use Rattle.easl_parser.proofs.limits.excess_of_codes.Given as goal

abbrev pub invariant-each : goal.invariant-each
invariant-each l =
    first_from l.found (flat_map excess_of_code (codes_in (drop l.member-index l.members)))
    ≡ first_from l.fn.start (flat_map excess_of_code (codes_in l.members))
