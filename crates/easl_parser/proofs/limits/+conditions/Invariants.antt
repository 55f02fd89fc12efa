use Rattle.std.proofs.Common.{◌≡◌, drop, map}
use Rattle.std.specs.List.{flat_map}
use Rattle.easl_model.specs.{clause_of, clauses, excess_of_path, paths_in}
use Rattle.easl_parser.specs.Tallies.{first_from}
use Rattle.easl_parser.proofs.limits.+conditions.Given as goal

abbrev pub invariant-excess_of_conditions-each : goal.invariant-excess_of_conditions-each
invariant-excess_of_conditions-each l =
    first_from l.found (flat_map excess_of_path (paths_in (clauses (map clause_of (drop l.part-index l.parts)))))
    ≡ first_from l.fn.start (flat_map excess_of_path (paths_in (clauses (map clause_of l.parts))))
