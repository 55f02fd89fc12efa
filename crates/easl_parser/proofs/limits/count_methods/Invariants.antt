use Rattle.std.proofs.Common.{◌≡◌, drop, map}
use Rattle.easl_model.specs.{methods_in}
use Rattle.easl_model.specs.declared.fault.Which.TheVariants as which
use Rattle.easl_parser.specs.Tallies.{tally_of}
use Rattle.easl_parser.proofs.limits.count_methods.Given as goal

abbrev pub invariant-each : goal.invariant-each
invariant-each l =
    tally_of which.Methods l.tally (map (λ code. code.place) (methods_in (drop l.member-index l.members)))
    ≡ tally_of which.Methods l.fn.start (map (λ code. code.place) (methods_in l.members))
