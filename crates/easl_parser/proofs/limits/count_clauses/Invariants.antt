use Rattle.std.proofs.Common.{◌≡◌, drop, map}
use Rattle.easl_model.specs.declared.fault.Which.TheVariants as which
use Rattle.easl_parser.specs.Tallies.{tally_of}
use Rattle.easl_parser.proofs.limits.count_clauses.Given as goal

abbrev pub invariant-each : goal.invariant-each
invariant-each l =
    tally_of which.Clauses l.tally (map (λ c. c.place) (drop l.clause-index l.clauses))
    ≡ tally_of which.Clauses l.fn.start (map (λ c. c.place) l.clauses)
