use Rattle.std.proofs.Common.{subst}
use Rattle.boolean_client.proofs.Tables.{AreThose}
use Rattle.client_facts.specs.Held.{setting}
use Rattle.client_facts.specs.Over.{IsReturnedFrom}
use Rattle.boolean_client.proofs.boolean_client.BooleanClient.returned.Goals as goal

pub returns-in-Ok-clause-follow : goal.returns-in-Ok-clause-follow
returns-in-Ok-clause-follow c =
    subst (λ h. AreThose (IsReturnedFrom (setting h) c.args.procedure c.args.point c.args.before.now c.args.entry.now c.args.exit.now) c.in-Ok.facts.items)
    c.self.view_is c.in-Ok.ensures.follow
