use Rattle.std.proofs.Common.{arith, sym}
use Rattle.cube_search.specs.Truths.{IsRowOf}
use Rattle.alias_cases.specs.{truths_of}
use Rattle.alias_cases.proofs.Turns.{zip_more}
use Rattle.alias_cases.proofs.rows.Rows.new.Goals as goal

pub each-preserved : goal.each-preserved
each-preserved c =
    let made : IsRowOf (truths_of c.args.cases.now c.literal-item.result) c.in_ok-row.row =
    rw (c.deref.ensures.value, c.in_ok-truths.ensures) at c.in_ok-row.ensures in
    rw c.in_ok-put_row.ensures
    (zip_more (λ m row. IsRowOf (truths_of c.args.cases.now m) row) c.args.literals.now c.each.rows.items
    c.each.literal-index c.literal-item.result c.in_ok-row.row (omega (arith, c.each-test.true)) (sym c.literal-item.is) c.each.invariant made)
