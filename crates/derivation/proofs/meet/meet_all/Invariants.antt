use Rattle.std.proofs.Common.{◌≡◌, length}
use Rattle.std.specs.Vec.Iter.{into_iter_items, into_iter_len}
use Rattle.derivation.proofs.Meeting.{AreNumbered}
use Rattle.derivation.proofs.meet.meet_all.Given as goal

abbrev pub invariant-each : goal.invariant-each
invariant-each l = record {
  so_far : AreNumbered l.fn.families.items l.fn.predicates (into_iter_items l.predicate-iterator) l.families.items l.made.items;
  left : length (into_iter_items l.predicate-iterator) ≡ into_iter_len l.predicate-iterator;
}
