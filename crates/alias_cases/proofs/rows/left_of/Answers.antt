use Rattle.std.proofs.Common.{◌≡◌, ℕ, [], get_or, slice_index, arith, ◌∙◌}
use Rattle.std.proofs.lemmas.List.{take_all}
use Rattle.alias_cases.proofs.Marked.{any_default, set_more}
use Rattle.alias_cases.proofs.rows.left_of.Goals as goal

pub each-preserved : goal.each-preserved
each-preserved c = λ bit.
    let number : ℕ = slice_index c.args.literals.now c.each.literal-index in
    let row : c.index-rows-literal.result ≡ get_or c.args.rows.now number [] =
    c.index-rows-literal.is
    ∙ any_default c.args.rows.now number c.index-rows-literal.result [] (c.requires c.each.literal-index 0 (omega (arith, c.each-test.true))) in
    rw (c.word_at-left.ensures, row)
    (set_more c.args.rows.now c.args.literals.now c.each.literal-index c.args.word c.each.left c.args.bits bit (omega (arith, c.each-test.true)) (c.each.invariant bit))

pub returns : goal.returns
returns c = rw (take_all c.each.literal-index c.args.literals.now (omega (arith, c.each-test.false))) at c.each.invariant
