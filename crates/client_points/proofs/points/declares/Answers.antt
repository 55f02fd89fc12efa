use Rattle.std.proofs.Common.{◌≡◌, ap, sym, ◌∙◌}
use Rattle.std.proofs.lemmas.Result.{IfOk-weaker}
use Rattle.client_model.specs.Statements.{Declare}
use Rattle.client_model.specs.Contexts.{Context}
use Rattle.client_model.specs.Points.{assigns, done_at}
use Rattle.client_values.specs.Knowing.{Knows}
use Rattle.easl_model.specs.declared.place.Place.{Place}
use Rattle.easl_model.specs.declared.tree.Word.{Word}
use Rattle.client_points.proofs.points.declares.Goals as goal

pub returns-in_ok-target-in-Some : goal.returns-in_ok-target-in-Some
returns-in_ok-target-in-Some c =
    let s = c.args.setting.now in
    IfOk-weaker c.assigns.result (λ p. (d : Context) → Knows d c.args.context.now → p ≡ assigns s d c.in_ok-target-in-Some.target c.in-Some.value)
    (λ p. (d : Context) → Knows d c.args.context.now → (place : Place) (w : Word) → p ≡ done_at s d (Declare place c.args.sort.now w c.args.value.now))
    (λ p made d knows place w.
    made d knows ∙ ap (λ t. assigns s d t c.in-Some.value) (c.in_ok-target-in-Some.ensures d knows)
    ∙ sym (ap (λ v. done_at s d (Declare place c.args.sort.now w v)) c.in-Some.is))
    c.assigns.ensures
