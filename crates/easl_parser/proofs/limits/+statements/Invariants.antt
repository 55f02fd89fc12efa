use Rattle.std.proofs.Common.{◌≡◌, drop}
use Rattle.easl_model.specs.{block_of, statements_in}
use Rattle.easl_model.specs.declared.fault.Which.TheVariants as which
use Rattle.easl_parser.specs.Tallies.{tally_of}
use Rattle.easl_parser.proofs.limits.+statements.Given as goal

abbrev pub invariant-statements_in-each : goal.invariant-statements_in-each
invariant-statements_in-each l =
    tally_of which.Statements l.tally (statements_in (block_of (drop l.step-index l.steps)))
    ≡ tally_of which.Statements l.fn.start (statements_in (block_of l.steps))
