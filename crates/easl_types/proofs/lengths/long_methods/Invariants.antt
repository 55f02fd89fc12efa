use Rattle.std.proofs.Common.{◌≡◌, drop}
use Rattle.easl_model.specs.{first_of, first_with}
use Rattle.easl_model.specs.Faults.{comes_before}
use Rattle.easl_types.specs.Counts.{long_from}
use Rattle.easl_types.proofs.lengths.long_methods.Given as goal

abbrev pub invariant-each : goal.invariant-each
invariant-each l = first_with comes_before l.found (long_from l.counts l.methods l.at (drop l.at l.places)) ≡ first_of (long_from l.counts l.methods 0 l.places)
