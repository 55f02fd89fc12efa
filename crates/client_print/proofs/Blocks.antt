-- The lines of statements that hold blocks, put on a page one part after another.
use Rattle.std.proofs.Common.{◌≡◌, ℕ, ◌+◌, Bool, List, [], ◌∷◌, ◌++◌, sym, ap, ◌∙◌}
use Rattle.client_model.proofs.PlainStatements.{plain_if, plain_while}
use Rattle.client_model.specs.Statements.{Statements, statement_of}
use Rattle.client_model.specs.declared.tree.Stmt.{Stmt}
use Rattle.client_model.specs.declared.tree.Stmt.TheVariants as stmt
use Rattle.client_model.specs.declared.tree.Test.{Test}
use Rattle.cv_layout.specs.Layout.{Line, line, mark}
use Rattle.cv_layout.specs.Page.{after_lines}
use Rattle.cv_layout.specs.declared.page.Page.{Page}
use Rattle.cv_layout.proofs.After.{lines_append}
use Rattle.easl_model.specs.declared.place.Place.{Place}
use Rattle.easl_model.specs.declared.token.Key.TheVariants as keyword
use Rattle.easl_model.specs.declared.token.Mark.TheVariants as sign
use Rattle.easl_print.specs.Lines.{alternative}
use Rattle.client_print.specs.Lines.{guard, statement_lines, block_lines, block_of}

-- a first line, the block behind it, and what stands behind that
three_parts : (p q r s : Page) (d n : ℕ) (first last : List Line) (xs : Statements)
    → q ≡ after_lines p first → n ≡ d + 1 → r ≡ after_lines q (block_lines n xs) → s ≡ after_lines r last
    → s ≡ after_lines (after_lines (after_lines p first) (block_lines (d + 1) xs)) last
three_parts p q r s d n first last xs e f g h =
    h ∙ ap (λ m. after_lines m last) (g ∙ ap (λ m. after_lines m (block_lines n xs)) e ∙ ap (λ k. after_lines (after_lines p first) (block_lines k xs)) f)

pub conditional_lines : (p q r s : Page) (d n : ℕ) (place : Place) (t : Test) (xs ys : List Stmt) (b : Bool)
    → q ≡ after_lines p (line d (guard keyword.If t)) → n ≡ d + 1 → r ≡ after_lines q (block_lines n (block_of xs))
    → s ≡ after_lines r (alternative d b (block_lines (d + 1) (block_of ys)))
    → s ≡ after_lines p (statement_lines d (statement_of (stmt.If place t xs ys b)))
conditional_lines p q r s d n place t xs ys b e f g h =
    let last = alternative d b (block_lines (d + 1) (block_of ys)) in
    three_parts p q r s d n (line d (guard keyword.If t)) last (block_of xs) e f g h
    ∙ sym (lines_append (after_lines p (line d (guard keyword.If t))) (block_lines (d + 1) (block_of xs)) last)
    ∙ ap (λ w. after_lines p (statement_lines d w)) (sym (plain_if place t xs ys b))

pub loop_lines : (p q s : Page) (d : ℕ) (place : Place) (t : Test) (xs : List Stmt)
    → q ≡ after_lines p (line d (guard keyword.While t))
    → s ≡ after_lines q (block_lines (d + 1) (block_of xs) ++ line d (mark sign.End ∷ []))
    → s ≡ after_lines p (statement_lines d (statement_of (stmt.While place t xs)))
loop_lines p q s d place t xs e f =
    f ∙ ap (λ m. after_lines m (block_lines (d + 1) (block_of xs) ++ line d (mark sign.End ∷ []))) e
    ∙ ap (λ w. after_lines p (statement_lines d w)) (sym (plain_while place t xs))
