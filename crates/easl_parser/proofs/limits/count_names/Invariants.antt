use Rattle.std.proofs.Common.{◌≡◌, drop, map}
use Rattle.easl_model.specs.declared.fault.Which.TheVariants as which
use Rattle.easl_parser.specs.Tallies.{tally_of}
use Rattle.easl_parser.proofs.limits.count_names.Given as goal

abbrev pub invariant-each : goal.invariant-each
invariant-each l =
    tally_of which.Path l.tally (map (λ w. w.place) (drop l.name-index l.names))
    ≡ tally_of which.Path l.fn.start (map (λ w. w.place) l.names)
