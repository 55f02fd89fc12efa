use Rattle.std.proofs.Common.{◌≡◌, drop, map}
use Rattle.easl_model.specs.{clause_of, clauses, comparisons_in}
use Rattle.easl_model.specs.declared.fault.Which.TheVariants as which
use Rattle.easl_parser.specs.Tallies.{tally_of}
use Rattle.easl_parser.proofs.limits.+comparisons.Given as goal

abbrev pub invariant-comparisons_in-each : goal.invariant-comparisons_in-each
invariant-comparisons_in-each l =
    tally_of which.Comparisons l.tally (comparisons_in (clauses (map clause_of (drop l.part-index l.parts))))
    ≡ tally_of which.Comparisons l.fn.start (comparisons_in (clauses (map clause_of l.parts)))
