use Rattle.std.proofs.Common.{subst}
use Rattle.boolean_client.proofs.Tables.{AreThose}
use Rattle.client_facts.specs.Held.{setting}
use Rattle.client_facts.specs.Over.{IsEnteredFrom}
use Rattle.boolean_client.proofs.boolean_client.BooleanClient.entered.Goals as goal

pub returns-in-Ok-clause-follow : goal.returns-in-Ok-clause-follow
returns-in-Ok-clause-follow c =
    subst (λ h. AreThose (IsEnteredFrom (setting h) c.args.procedure c.args.point c.args.fact.now) c.in-Ok.facts.items) c.self.view_is c.in-Ok.ensures.follow
