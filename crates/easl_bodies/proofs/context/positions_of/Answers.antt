use Rattle.std.proofs.Common.{arith, ap, ◌∙◌, ◌++◌, ◌∷◌, []}
use Rattle.easl_bodies.proofs.Walks.{one_more}
use Rattle.easl_bodies.proofs.context.positions_of.Goals as goal

pub each-preserved : goal.each-preserved
each-preserved c = c.in_ok-push.ensures.ok ∙ ap (λ ps. ps ++ c.each.position ∷ []) c.each.invariant ∙ one_more 0 c.each.position c.each.position (omega arith)
