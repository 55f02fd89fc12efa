use Rattle.std.proofs.Common.{◌/◌, arith}
use Rattle.client_bodies.proofs.Marked.{knows_set}
use Rattle.client_bodies.proofs.steps.mark.Goals as goal

pub returns-in_ok-set-clause-behind : goal.returns-in_ok-set-clause-behind
returns-in_ok-set-clause-behind c d knows is =
    knows_set d c.args.context.now c.set.new.self c.args.code (c.args.code / 4) knows is (omega (arith, c.if-code-eq1.true)) c.in_ok-set.ensures
