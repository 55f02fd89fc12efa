use Rattle.std.proofs.Common.{◌≡◌, drop, map}
use Rattle.easl_model.specs.declared.fault.Which.TheVariants as which
use Rattle.easl_parser.specs.Tallies.{tally_of}
use Rattle.easl_parser.proofs.limits.count_params.Given as goal

abbrev pub invariant-each : goal.invariant-each
invariant-each l =
    tally_of which.Parameters l.tally (map (λ p. p.place) (drop l.param-index l.params))
    ≡ tally_of which.Parameters l.fn.start (map (λ p. p.place) l.params)
