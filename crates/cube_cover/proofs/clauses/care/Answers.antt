use Rattle.std.proofs.Common.{arith, length, sym, ap, ◌∙◌}
use Rattle.std.proofs.lemmas.List.{take_all}
use Rattle.case_model.specs.{by_blocks, clauses_hold}
use Rattle.cube_cover.proofs.Caring.{named_more, within_more}
use Rattle.cube_cover.proofs.clauses.care.Goals as goal

pub each-preserved : goal.each-preserved
each-preserved c =
    let items = c.as_slice-blocks-items.ensures in
    record {
      named = rw (c.in_ok-put_if.ensures)
          (named_more (λ bs. clauses_hold c.method-called.result.now (by_blocks c.as_slice-terms.result.now bs)) c.args.cases.now.list c.each.numbers.items c.each.number
          c.blocks-item.result c.clauses_hold-so.result (omega (arith, c.each-test.true, ap length items)) (rw items at (sym c.blocks-item.is))
          (c.clauses_hold-so.ensures ∙ ap (λ bs. clauses_hold c.method-called.result.now (by_blocks c.as_slice-terms.result.now bs)) c.as_slice.ensures)
          c.each.invariant.named);
      within = rw (c.in_ok-put_if.ensures)
          (within_more (length c.args.cases.now.list) c.each.numbers.items c.each.number c.clauses_hold-so.result
          (omega (arith, c.each-test.true, ap length items)) c.each.invariant.within);
    }

pub returns-clause-care : goal.returns-clause-care
returns-clause-care c =
    let all = take_all c.each.number c.args.cases.now.list (omega (arith, c.each-test.false, ap length c.as_slice-blocks-items.ensures)) in
    rw (c.method-called.ensures.value, ← c.as_slice-terms.ensures) (rw all at c.each.invariant.named)
