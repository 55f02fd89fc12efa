use Rattle.std.proofs.Common.{sym, subst, ◌∙◌}
use Rattle.cv_read.specs.Answers.{Answers}
use Rattle.easl_model.specs.{IsSpec}
use Rattle.easl_parser.proofs.Limited.{within_answers}
use Rattle.easl_parser.proofs.whole.read_spec.Goals as goal

pub returns-in-None : goal.returns-in-None
returns-in-None c =
    within_answers c.args.text.now c.in-Ok.spec (subst (λ r. Answers IsSpec c.args.text.now r) c.in-Ok.is c.spelled.ensures)
    (sym c.first_excess.ensures ∙ c.in-None.is)
