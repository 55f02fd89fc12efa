use Rattle.std.proofs.lemmas.Result.{IfOk-weaker}
use Rattle.client_bodies.proofs.Exits.{left_here}
use Rattle.client_bodies.proofs.bodies.sets_at_end.Goals as goal

pub returns : goal.returns
returns c =
    IfOk-weaker c.finish.result _ _
    (λ sets is. left_here c.args.names c.leave.new.self sets c.in_ok-leave.ensures.left c.in_ok-leave.ensures.others is) c.finish.ensures
