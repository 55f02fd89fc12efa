use Rattle.std.proofs.Common.{◌≡◌, ◌≤◌, length}
use Rattle.std.specs.Vec.Iter.{into_iter_items, into_iter_len}
use Rattle.indexmap.specs.IndexSet.{insert_all}
use Rattle.cv_fix.specs.Known.{filled}
use Rattle.cv_fix.proofs.known.Known.add_all.Given as goal

abbrev pub invariant-loop-item : goal.invariant-loop-item
invariant-loop-item g l = record {
  items : insert_all g.T.PartialEq.eq l.self.items.keys (into_iter_items l.item-iterator) ≡ insert_all g.T.PartialEq.eq l.fn.self.items.keys l.fn.found.items;
  left : length (into_iter_items l.item-iterator) ≡ into_iter_len l.item-iterator;
  grown : length l.fn.self.items.keys ≤ length l.self.items.keys;
  causes : l.self.causes.items ≡ filled l.cause (length l.self.items.keys) l.fn.self.causes.items;
  as_many : length l.self.causes.items ≡ length l.self.items.keys;
  room : length l.self.items.keys ≤ l.limit;
}
