use Rattle.client_bodies.proofs.Passing.{grows_returned, knows_returned, passed_return}
use Rattle.client_bodies.proofs.behind.behind_returned.Goals as goal

pub returns-clause-behind : goal.returns-clause-behind
returns-clause-behind c d knows =
    c.in_ok-behind_stopped.ensures.behind d (knows_returned d c.args.context.now c.leave.new.self knows c.in_ok-leave.ensures.others)

pub returns-clause-grows : goal.returns-clause-grows
returns-clause-grows c =
    grows_returned c.args.context.now c.behind_stopped.new.context c.leave.new.self c.in_ok-leave.ensures.others c.in_ok-behind_stopped.ensures.notes

pub returns-clause-passed : goal.returns-clause-passed
returns-clause-passed c s d r knows these =
    passed_return s d r c.args.context.now c.behind_stopped.new.context c.leave.new.self knows these c.in_ok-leave.ensures.left c.in_ok-leave.ensures.others
    c.in_ok-behind_stopped.ensures.notes
