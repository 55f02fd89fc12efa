use Rattle.std.proofs.Common.{◌≡◌, drop, map}
use Rattle.easl_model.specs.{fields_in}
use Rattle.easl_model.specs.declared.fault.Which.TheVariants as which
use Rattle.easl_parser.specs.Tallies.{tally_of}
use Rattle.easl_parser.proofs.limits.count_fields.Given as goal

abbrev pub invariant-each : goal.invariant-each
invariant-each l =
    tally_of which.Fields l.tally (map (λ f. f.class.place) (fields_in (drop l.member-index l.members)))
    ≡ tally_of which.Fields l.fn.start (map (λ f. f.class.place) (fields_in l.members))
