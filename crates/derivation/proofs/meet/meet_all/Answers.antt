use Rattle.std.specs.Vec.Iter.{into_iter_items}
use Rattle.cv_fix.proofs.Inserted.{length-rest}
use Rattle.derivation.proofs.Meeting.{full_so, one_more_numbered, one_too_many}
use Rattle.derivation.proofs.meet.meet_all.Goals as goal

pub each-preserved : goal.each-preserved
each-preserved c =
    let rest = into_iter_items c.each.predicate-iterator in
    let left = into_iter_items c.next.new.self in
    let steps = c.in-Some.ensures.steps in
    record {
      so_far = one_more_numbered c.args.families.now.items c.args.predicates rest left c.each.families.items c.each.made.items c.each.invariant.so_far
          c.in-Some.predicate steps.0 c.number.new.families.items c.in-Ok.disjunct c.put_last.new.items.items
          c.in-Ok.ensures.0 c.in-Ok.ensures.1 c.in-Ok.ensures.2
          c.in_ok-put_last-in-Ok.ensures;
      left = length-rest rest left c.in-Some.predicate _ _ steps.0 steps.1 c.each.invariant.left;
    }

pub returns-in-Err : goal.returns-in-Err
returns-in-Err c =
    full_so _ _ c.in-Err.fault
    (one_too_many c.args.families.now.items c.args.predicates (into_iter_items c.each.predicate-iterator) (into_iter_items c.next.new.self)
    c.each.families.items c.each.made.items c.each.invariant.so_far c.in-Some.predicate c.in-Some.ensures.steps.0) c.in-Err.ensures
