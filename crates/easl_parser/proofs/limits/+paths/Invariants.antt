use Rattle.std.proofs.Common.{◌≡◌, drop}
use Rattle.easl_model.specs.{block_of, excess_in}
use Rattle.easl_parser.specs.Tallies.{first_from}
use Rattle.easl_parser.proofs.limits.+paths.Given as goal

abbrev pub invariant-excess_in-each : goal.invariant-excess_in-each
invariant-excess_in-each l =
    first_from l.found (excess_in (block_of (drop l.step-index l.steps)))
    ≡ first_from l.fn.start (excess_in (block_of l.steps))
