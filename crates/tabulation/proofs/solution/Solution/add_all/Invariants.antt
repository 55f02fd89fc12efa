use Rattle.std.proofs.Common.{◌≡◌, length}
use Rattle.std.specs.Vec.Iter.{into_iter_items, into_iter_len}
use Rattle.indexmap.specs.IndexSet.{insert_all}
use Rattle.tabulation.proofs.Inserted.{equals}
use Rattle.tabulation.proofs.solution.Solution.add_all.Given as goal

abbrev pub invariant-each : goal.invariant-each
invariant-each l = record {
  items : insert_all equals l.self (into_iter_items l.edge-iterator) ≡ insert_all equals l.fn.self l.fn.found.items;
  left : length (into_iter_items l.edge-iterator) ≡ into_iter_len l.edge-iterator;
}
