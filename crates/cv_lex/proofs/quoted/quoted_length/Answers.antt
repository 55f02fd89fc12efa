use Rattle.std.proofs.Common.{sym, ap, ◌∙◌}
use Rattle.std.proofs.lemmas.Bool.{both_ways}
use Rattle.std.proofs.lemmas.List.{take_rest}
use Rattle.cv_lex.specs.Reading.{unit_size}
use Rattle.cv_lex.proofs.Quotes.{inside_more, ends_quoted, no_end}
use Rattle.cv_lex.proofs.quoted.quoted_length.Goals as goal

pub each-preserved : goal.each-preserved
each-preserved c =
    let cs = c.args.characters.now in
    inside_more cs c.each.at c.in-Some.size c.each.invariant (ap unit_size (sym (take_rest cs c.each.at)) ∙ sym c.in-Some.ensures)

pub returns-then-is_at : goal.returns-then-is_at
returns-then-is_at c = ends_quoted c.args.characters.now c.each.at c.each.invariant (c.is_at.ensures.0 c.if-is_at.true)

pub returns-else-is_at : goal.returns-else-is_at
returns-else-is_at c =
    let cs = c.args.characters.now in
    no_end cs c.each.at c.each.invariant (ap unit_size (sym (take_rest cs c.each.at)) ∙ sym c.in_default.ensures)
    (λ e. both_ways c.is_at.result c.if-is_at.false (c.is_at.ensures.1 e))
