use Rattle.std.proofs.Common.{◌-◌, ◌∙◌, sym, ap, arith}
use Rattle.cube_search.specs.Search.{kept_of}
use Rattle.cube_search.proofs.Steps.{along_next, along_end, visited_more}
use Rattle.cube_search.proofs.searching.+search.Goals as goal

pub each-preserved : goal.each-preserved
each-preserved t c =
    along_next c.args.task.now (c.args.left - 1) c.args.from c.each.literal c.args.row.now c.args.cube.now c.args.kept.now.items c.each.kept.items
    c.search.new.kept.items c.index.result.now
    (omega (arith, c.each-test.true, c.len-literal-end.ensures))
    c.each.invariant
    (rw (c.in_ok-narrower.ensures, c.in_ok-more.ensures, c.index.ensures) at c.in_ok-search.ensures)

pub returns : goal.returns
returns t c =
    along_end c.args.task.now (c.args.left - 1) c.args.from c.each.literal c.args.row.now c.args.cube.now c.args.kept.now.items c.each.kept.items
    (omega (arith, c.each-test.false, c.len-literal-end.ensures))
    c.each.invariant
    ∙ ap (λ vs. kept_of c.args.task.now vs c.args.kept.now.items)
    (sym (visited_more c.args.task.now.never c.args.left c.args.from _ c.args.row.now c.args.cube.now c.if-left-eq0.false
    (sym c.meets.ensures ∙ c.if-not-meets.false)))
