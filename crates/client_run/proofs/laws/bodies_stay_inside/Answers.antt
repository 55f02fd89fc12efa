use Rattle.client_run.proofs.Inside as inside
use Rattle.client_run.proofs.laws.bodies_stay_inside.Goals as goal

pub returns : goal.returns
returns c = inside.bodies_stay_inside
