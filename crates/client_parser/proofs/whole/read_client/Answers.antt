use Rattle.std.proofs.Common.{sym, subst, ◌∙◌}
use Rattle.cv_read.specs.Answers.{Answers}
use Rattle.client_model.specs.Grammar.{IsClient}
use Rattle.client_parser.proofs.Limited.{within_answers}
use Rattle.client_parser.proofs.whole.read_client.Goals as goal

pub returns-in-None : goal.returns-in-None
returns-in-None c =
    within_answers c.args.text.now c.in-Ok.client (subst (λ r. Answers IsClient c.args.text.now r) c.in-Ok.is c.spelled.ensures)
    (sym c.first_excess.ensures ∙ c.in-None.is)
