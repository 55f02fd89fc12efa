use Rattle.client_model.proofs.Codes.{codes_tell}
use Rattle.client_model.proofs.laws.codes_tell_names.Goals as goal

pub returns : goal.returns
returns c = codes_tell
