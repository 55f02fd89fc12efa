use Rattle.std.proofs.Common.{sym}
use Rattle.std.specs.Prelude.{Some}
use Rattle.client_bodies.proofs.behind.behind_done.Goals as goal

pub returns-clause-behind : goal.returns-clause-behind
returns-clause-behind c d knows = c.in_ok-evaluate.ensures.behind d knows (Some c.args.value.now) (sym c.call_count.ensures)
