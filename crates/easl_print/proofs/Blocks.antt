-- The lines of a conditional, put on a page one part after another.
use Rattle.std.proofs.Common.{◌≡◌, ℕ, ◌+◌, Bool, List, sym, ap, ◌∙◌}
use Rattle.cv_layout.specs.{after_lines, line}
use Rattle.cv_layout.specs.declared.page.Page.{Page}
use Rattle.cv_layout.proofs.After.{lines_append}
use Rattle.easl_model.specs.{Block, Clause, block_of, clause_of, written_of}
use Rattle.easl_model.specs.Steps.{If}
use Rattle.easl_model.specs.declared.place.Place.{Place}
use Rattle.easl_model.specs.declared.tree.Cond.{Cond}
use Rattle.easl_model.specs.declared.tree.Step.{Step}
use Rattle.easl_model.specs.declared.tree.Step.TheVariants as step
use Rattle.easl_print.specs.Lines.{guard, alternative, step_lines, block_lines}
use Rattle.easl_print.proofs.PlainSteps.{if_is}

parts : (p : Page) (d : ℕ) (place : Place) (c : Clause) (xs ys : Block) (b : Bool)
    → after_lines (after_lines (after_lines p (line d (guard c))) (block_lines (d + 1) xs)) (alternative d b (block_lines (d + 1) ys)) ≡ after_lines p
    (step_lines d (If place c xs ys b))
parts p d place c xs ys b =
    let first = line d (guard c) in
    let inner = block_lines (d + 1) xs in
    let last = alternative d b (block_lines (d + 1) ys) in
    sym (lines_append (after_lines p first) inner last)

pub conditional_lines : (p q r s : Page) (d n : ℕ) (place : Place) (test : Cond) (xs ys : List Step) (b : Bool)
    → q ≡ after_lines p (line d (guard (clause_of test))) → n ≡ d + 1 → r ≡ after_lines q (block_lines n (block_of xs))
    → s ≡ after_lines r (alternative d b (block_lines (d + 1) (block_of ys)))
    → s ≡ after_lines p (step_lines d (written_of (step.If place test xs ys b)))
conditional_lines p q r s d n place test xs ys b e f g h =
    let last = alternative d b (block_lines (d + 1) (block_of ys)) in
    h ∙ ap (λ m. after_lines m last) (g ∙ ap (λ m. after_lines m (block_lines n (block_of xs))) e ∙ ap
    (λ k. after_lines (after_lines p (line d (guard (clause_of test)))) (block_lines k (block_of xs))) f)
    ∙ parts p d place (clause_of test) (block_of xs) (block_of ys) b ∙ ap (λ w. after_lines p (step_lines d w)) (sym (if_is place test xs ys b))
