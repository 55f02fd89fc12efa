use Rattle.client_facts.proofs.SetLengths.{sets_long}
use Rattle.client_facts.proofs.setting.Setting.procedure.Goals as goal

pub returns-clause-sets : goal.returns-clause-sets
returns-clause-sets c =
    sets_long c.self.inside.spec.now c.self.inside.client.now c.self.invariant.0 c.args.procedure c.procedure.result.now c.procedure.ensures
