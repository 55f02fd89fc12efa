use Rattle.std.proofs.Common.{subst}
use Rattle.client_values.specs.ToldFaults.{Finds}
use Rattle.client_model.specs.Faults.{Duplicate, broken_if}
use Rattle.client_bodies.proofs.statements.named_twice.Goals as goal

pub returns : goal.returns
returns c d knows =
    subst (λ b. Finds c.args.found c.note_if.result (broken_if b Duplicate c.args.name.now.place)) (c.is_local.ensures d knows) c.note_if.ensures
