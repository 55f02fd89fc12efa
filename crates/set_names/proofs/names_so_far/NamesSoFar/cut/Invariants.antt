use Rattle.std.proofs.Common.{◌≡◌, length, take}
use Rattle.set_names.proofs.names_so_far.NamesSoFar.cut.Given as goal

abbrev pub invariant-each : goal.invariant-each
invariant-each l = record {
  others : l.self ≡ record l.fn.self { trail = l.self.trail };
  kept : take l.kept l.self.trail ≡ take l.kept l.fn.self.trail;
}

abbrev pub decreases-each : goal.decreases-each
decreases-each l = length l.self.trail
