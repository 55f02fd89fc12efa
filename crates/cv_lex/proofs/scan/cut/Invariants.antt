use Rattle.std.proofs.Common.{length, ◌-◌}
use Rattle.cv_lex.specs.Reading.{IsSpot, Leads}
use Rattle.cv_lex.proofs.scan.cut.Given as goal

abbrev pub invariant-loop-spot : goal.invariant-loop-spot
invariant-loop-spot l = record {
  spot : IsSpot l.characters l.spot;
  leads : Leads l.characters 0 l.list l.spot.at;
}

abbrev pub decreases-loop-spot : goal.decreases-loop-spot
decreases-loop-spot l = length l.characters - l.spot.at
