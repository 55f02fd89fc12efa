use Rattle.std.specs.Prelude.{None}
use Rattle.std.proofs.Common.{refl}
use Rattle.client_bodies.proofs.Passing.{notes_same}
use Rattle.client_model.specs.Contexts.{evaluated}
use Rattle.client_bodies.proofs.behind.behind_stopped.Goals as goal

pub returns-clause-behind : goal.returns-clause-behind
returns-clause-behind c d knows = c.stop.ensures.behind (evaluated None d) (c.in_ok-evaluate.ensures.behind d knows None refl)

pub returns-clause-notes : goal.returns-clause-notes
returns-clause-notes c = notes_same c.args.context.now c.evaluate.new.context c.stop.new.context c.in_ok-evaluate.ensures.notes c.stop.ensures.assigned
