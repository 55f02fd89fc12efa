use Rattle.std.proofs.Common.{◌∷◌, ◌++◌, [], ap, map, ◌∙◌}
use Rattle.std.proofs.lemmas.Result.{IfOk-weaker}
use Rattle.client_bodies.proofs.Exits.{left_and_end, left_only}
use Rattle.set_names.specs.Sets.{codes_of}
use Rattle.client_bodies.proofs.bodies.sets_of.Goals as goal

pub returns-then-goes_on : goal.returns-then-goes_on
returns-then-goes_on c =
    let n = c.args.names in
    IfOk-weaker c.sets_at_end.result _ _
    (λ sets is. is ∙ ap (λ ks. map (codes_of n.statics) (n.before ++ ks ∷ [])) (left_and_end n c.args.goes_on c.if-goes_on.true)) c.sets_at_end.ensures

pub returns-else-goes_on : goal.returns-else-goes_on
returns-else-goes_on c =
    let n = c.args.names in
    IfOk-weaker c.finish.result _ _
    (λ sets is. is ∙ ap (λ ks. map (codes_of n.statics) (n.before ++ ks ∷ [])) (left_only n c.args.goes_on c.if-goes_on.false)) c.finish.ensures
