use Rattle.std.proofs.Common.{ap, refl, ◌∙◌, ◌++◌, ◌∷◌, []}
use Rattle.client_points.proofs.Adding.{assignment_written}
use Rattle.client_points.proofs.written.Written.note_assigned.Goals as goal

pub returns : goal.returns
returns c d knows =
    assignment_written c.args.setting.now d c.args.word.now c.args.value.now c.args.self.now _ c.in_ok-site_of_value.field-0
    (c.in_ok-push.ensures.ok ∙ ap (λ p. c.args.self.now.points ++ p ∷ []) (c.in_ok-assigned_point.ensures d knows))
    refl c.in_ok-add.ensures (c.in_ok-site_of_value.ensures d knows)
