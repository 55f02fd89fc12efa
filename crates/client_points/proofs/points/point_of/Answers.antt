use Rattle.std.proofs.Common.{◌≡◌, ap, sym, ◌∙◌}
use Rattle.std.proofs.lemmas.Result.{IfOk-weaker}
use Rattle.client_model.proofs.PlainStatements.{plain_declare}
use Rattle.client_model.specs.Statements.{Declare, statement_of}
use Rattle.client_model.specs.Contexts.{Context}
use Rattle.client_model.specs.Points.{done_at}
use Rattle.client_values.specs.Knowing.{Knows}
use Rattle.easl_model.specs.declared.place.Place.{Place}
use Rattle.easl_model.specs.declared.tree.Word.{Word}
use Rattle.client_points.proofs.points.point_of.Goals as goal

pub returns-in-Declare : goal.returns-in-Declare
returns-in-Declare c =
    let s = c.args.setting.now in
    let place = c.in-Declare.field-0 in
    let word = c.in-Declare.field-2 in
    IfOk-weaker c.declares.result
    (λ p. (d : Context) → Knows d c.args.context.now → (at : Place) (w : Word) → p ≡ done_at s d (Declare at c.in-Declare.sort w c.in-Declare.value))
    (λ p. (d : Context) → Knows d c.args.context.now → p ≡ done_at s d (statement_of c.args.item.now))
    (λ p made d knows.
    made d knows place word
    ∙ sym (ap (λ x. done_at s d (statement_of x)) c.in-Declare.is ∙ ap (done_at s d) (plain_declare place c.in-Declare.sort word c.in-Declare.value)))
    c.declares.ensures
