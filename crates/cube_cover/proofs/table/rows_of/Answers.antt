use Rattle.std.proofs.Common.{arith, sym}
use Rattle.alias_cases.proofs.Turns.{zip_more}
use Rattle.cube_cover.specs.{configurations_at, truths_of}
use Rattle.cube_search.specs.Truths.{IsRowOf}
use Rattle.cube_cover.proofs.table.rows_of.Goals as goal

pub each-preserved : goal.each-preserved
each-preserved c =
    let made : IsRowOf (truths_of c.args.terms.now (configurations_at c.args.cases.now c.args.care.now) c.literal-item.result) c.in_ok-row.row =
    rw (c.deref.ensures.value, c.in_ok-truths.ensures) at c.in_ok-row.ensures in
    rw c.in_ok-put_last.ensures
    (zip_more (λ m row. IsRowOf (truths_of c.args.terms.now (configurations_at c.args.cases.now c.args.care.now) m) row) c.args.literals.now c.each.rows.items
    c.each.literal-index c.literal-item.result c.in_ok-row.row (omega (arith, c.each-test.true)) (sym c.literal-item.is) c.each.invariant made)
