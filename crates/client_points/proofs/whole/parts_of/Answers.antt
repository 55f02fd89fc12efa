use Rattle.std.proofs.Common.{ap, ◌∙◌, ◌++◌, ◌∷◌, []}
use Rattle.client_points.proofs.WholeForm.{parts_same}
use Rattle.client_points.proofs.whole.parts_of.Goals as goal

pub returns : goal.returns
returns c form client all parts none =
    parts_same form client c.args.bodies c.in_ok-start.start _
    (c.in_ok-append.ensures ∙ ap (λ xs. xs ++ c.args.bodies.procedures) (c.in_ok-push.ensures.ok ∙ ap (λ xs. xs ++ c.in_ok-start.start ∷ []) c.new-all.ensures))
    (c.in_ok-start.ensures form client all parts.initial) parts none
