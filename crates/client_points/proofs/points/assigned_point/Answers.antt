use Rattle.std.proofs.Common.{◌≡◌, ap, ◌∙◌}
use Rattle.std.proofs.lemmas.Result.{IfOk-weaker}
use Rattle.client_model.specs.Statements.{Assign}
use Rattle.client_model.specs.Contexts.{Context}
use Rattle.client_model.specs.Points.{assigns, done_at}
use Rattle.client_values.specs.Knowing.{Knows}
use Rattle.client_points.proofs.points.assigned_point.Goals as goal

pub returns : goal.returns
returns c =
    let s = c.args.setting.now in
    IfOk-weaker c.assigns.result (λ p. (d : Context) → Knows d c.args.context.now → p ≡ assigns s d c.code_of-target.result c.args.value.now)
    (λ p. (d : Context) → Knows d c.args.context.now → p ≡ done_at s d (Assign c.args.word.now c.args.value.now))
    (λ p made d knows. made d knows ∙ ap (λ t. assigns s d t c.args.value.now) (c.code_of-target.ensures d knows))
    c.assigns.ensures
