use Rattle.std.proofs.Common.{◌≤◌, length, arith}
use Rattle.std.specs.Vec.Iter.{into_iter_items}
use Rattle.std.proofs.lemmas.Result.{err_from_is_err_and}
use Rattle.indexmap.specs.IndexSet.{insert_all}
use Rattle.cv_fix.proofs.Faults.{AtFull-weaker}
use Rattle.cv_fix.proofs.Filled.{length-now, filled-next}
use Rattle.cv_fix.proofs.Inserted.{length-rest, length-added, insert_all-next, lt-insert_all}
use Rattle.cv_fix.proofs.known.Known.add_all.Goals as goal

pub loop-item-preserved : goal.loop-item-preserved
loop-item-preserved g c =
    let eq = g.T.PartialEq.eq in
    let all = insert_all eq c.args.self.now.items.keys c.args.found.items in
    let keys = c.loop-item.self.items.keys in
    let new = c.add.new.self.items.keys in
    let causes = c.loop-item.self.causes.items in
    let i = c.loop-item.invariant in
    let next = c.in-Some.ensures.steps in
    let added = c.in_ok-add.ensures in
    let longer : length keys ≤ length new = length-added eq keys new c.in-Some.item added.items in
    record {
      items = insert_all-next eq keys new (into_iter_items c.loop-item.item-iterator) (into_iter_items c.next.new.self) all c.in-Some.item added.items next.0 i.items;
      left = length-rest (into_iter_items c.loop-item.item-iterator) (into_iter_items c.next.new.self) c.in-Some.item _ _ next.0 next.1 i.left;
      grown = omega (arith, i.grown, longer);
      causes = filled-next c.args.cause (length keys) (length new) c.args.self.now.causes.items causes c.add.new.self.causes.items (omega (arith, i.grown)) longer i.causes added.causes;
      as_many = length-now c.args.cause (length new) causes c.add.new.self.causes.items (omega (arith, i.as_many)) added.causes;
      room = added.room;
    }

pub returns-in_err-add-clause-full : goal.returns-in_err-add-clause-full
returns-in_err-add-clause-full g c =
    let p = err_from_is_err_and c.from_residual.result c.from_residual.ensures.1 in
    let eq = g.T.PartialEq.eq in
    let all = insert_all eq c.args.self.now.items.keys c.args.found.items in
    let over = lt-insert_all eq c.args.limit c.loop-item.self.items.keys (into_iter_items c.loop-item.item-iterator) (into_iter_items c.next.new.self) all c.in-Some.item c.in-Some.ensures.steps.0 c.loop-item.invariant.items in
    rw (p.1, p.2) (AtFull-weaker c.in_err-add.field-0.0 over c.in_err-add.ensures.full)
