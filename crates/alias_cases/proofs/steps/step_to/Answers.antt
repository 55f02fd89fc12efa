use Rattle.std.proofs.Common.{sym, ◌∙◌}
use Rattle.alias_cases.proofs.Ladders.{step_there}
use Rattle.alias_cases.proofs.steps.step_to.Goals as goal

pub returns-in_err-shorter : goal.returns-in_err-shorter
returns-in_err-shorter c =
    absurd (step_there c.args.terms.now c.args.term.now c.in_ok-field.front.now c.in_ok-field.field.now c.requires.closed c.requires.there
    (sym c.as_slice.ensures ∙ c.in_ok-field.ensures.cases.0)
    c.in_err-shorter.ensures.none)
