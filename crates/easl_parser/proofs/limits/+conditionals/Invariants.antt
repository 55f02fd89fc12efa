use Rattle.std.proofs.Common.{◌≡◌, drop}
use Rattle.easl_model.specs.{block_of, conditionals_in}
use Rattle.easl_model.specs.declared.fault.Which.TheVariants as which
use Rattle.easl_parser.specs.Tallies.{tally_of}
use Rattle.easl_parser.proofs.limits.+conditionals.Given as goal

abbrev pub invariant-conditionals_in-each : goal.invariant-conditionals_in-each
invariant-conditionals_in-each l =
    tally_of which.Conditionals l.tally (conditionals_in (block_of (drop l.step-index l.steps)))
    ≡ tally_of which.Conditionals l.fn.start (conditionals_in (block_of l.steps))
