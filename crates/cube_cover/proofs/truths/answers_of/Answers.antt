use Rattle.std.proofs.Common.{List, ℕ, arith, ap, refl, slice_index, ◌∙◌}
use Rattle.access_paths.specs.{answer, tree_of}
use Rattle.case_model.specs.{by_blocks}
use Rattle.cube_cover.proofs.Caring.{truth_more}
use Rattle.cube_cover.proofs.truths.answers_of.Goals as goal

pub each-preserved : goal.each-preserved
each-preserved c =
    let f = λ (bs : List ℕ). answer (by_blocks c.args.terms.now bs) (tree_of c.args.tree.now) in
    rw c.in_ok-put_last.ensures
    (truth_more f c.args.cases.now c.args.care.now c.each.number-index (slice_index c.args.care.now c.each.number-index) c.each.answers.items c.answer-truth.result
    (omega (arith, c.each-test.true)) refl c.each.invariant (c.answer-truth.ensures ∙ ap f c.blocks_of.ensures))
