use Rattle.client_points.proofs.CallsMade.{makes_no_call}
use Rattle.client_points.proofs.sites.site_of_value.Goals as goal

pub returns-in-Copy : goal.returns-in-Copy
returns-in-Copy c d knows = makes_no_call c.args.setting.now d c.args.value.now c.in-Copy.is
