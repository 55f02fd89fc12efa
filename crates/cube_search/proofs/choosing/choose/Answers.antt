use Rattle.std.proofs.Common.{◌∙◌, sym}
use Rattle.std.specs.Vec.Iter.{into_iter_items}
use Rattle.cube_search.proofs.Chosen.{along_next}
use Rattle.cube_search.proofs.choosing.choose.Goals as goal

pub each-preserved-in-Continue-branch-2 : goal.each-preserved-in-Continue-branch-2
each-preserved-in-Continue-branch-2 c =
    along_next c.args.none c.each.covered c.in_ok-covered.covered c.each.chosen.items c.put.new.kept.items (into_iter_items c.each.candidate-iterator)
    (into_iter_items c.next.new.self) c.args.kept.items c.in-Some.candidate c.each.invariant c.in-Some.ensures.steps.0
    (sym c.is_within.ensures ∙ c.if-not-is_within.true) c.in_ok-covered.ensures c.in_ok-put.ensures
