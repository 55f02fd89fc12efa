use Rattle.std.proofs.Common.{[], ◌∷◌, ◌++◌, arith}
use Rattle.cube_search.proofs.Steps.{along_next, along_end}
use Rattle.cube_search.proofs.searching.search_last.Goals as goal

pub each-preserved : goal.each-preserved
each-preserved c =
    along_next c.args.task.now 0 c.args.from c.each.last c.args.row.now (c.args.cube.now ++ c.args.literal ∷ []) c.args.kept.now.items
    c.each.kept.items c.finish.new.kept.items c.index.result.now
    (omega (arith, c.each-test.true, c.len-last-end.ensures))
    c.each.invariant
    (rw (c.index.ensures) at c.in_ok-finish.ensures)

pub returns : goal.returns
returns c =
    along_end c.args.task.now 0 c.args.from c.each.last c.args.row.now (c.args.cube.now ++ c.args.literal ∷ []) c.args.kept.now.items
    c.each.kept.items
    (omega (arith, c.each-test.false, c.len-last-end.ensures))
    c.each.invariant
