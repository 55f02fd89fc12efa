use Rattle.failure_laws.proofs.Alarms.{alarms_fail}
use Rattle.failure_laws.proofs.laws.alarms_fail.Goals as goal

pub returns : goal.returns
returns c = alarms_fail
