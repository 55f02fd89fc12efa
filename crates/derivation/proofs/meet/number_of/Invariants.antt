use Rattle.std.proofs.Common.{Contains, take}
use Rattle.derivation.proofs.meet.number_of.Given as goal

abbrev pub invariant-each : goal.invariant-each
invariant-each l = ¬ Contains (take l.number l.families) l.family
