use Rattle.std.proofs.Common.{take}
use Rattle.std.specs.List.{AllZip}
use Rattle.derivation.specs.Replies.{IsPredicateOf}
use Rattle.derivation.proofs.chosen.predicates.Given as goal

abbrev pub invariant-each : goal.invariant-each
invariant-each l = AllZip (IsPredicateOf l.classes) (take l.cube-index l.cubes) l.made.items
