use Rattle.client_bodies.proofs.Passing.{notes_passed}
use Rattle.client_bodies.proofs.steps.evaluate.Goals as goal

pub returns-clause-notes : goal.returns-clause-notes
returns-clause-notes c = notes_passed c.args.context.now _ c.in_ok-pass.ensures
