use Rattle.std.proofs.Common.{◌≡◌, drop, map}
use Rattle.easl_model.specs.declared.fault.Which.TheVariants as which
use Rattle.easl_parser.specs.Tallies.{tally_of}
use Rattle.easl_parser.proofs.limits.count_classes.Given as goal

abbrev pub invariant-each : goal.invariant-each
invariant-each l =
    tally_of which.Classes l.tally (map (λ c. c.place) (drop l.class-index l.classes))
    ≡ tally_of which.Classes l.fn.start (map (λ c. c.place) l.classes)
