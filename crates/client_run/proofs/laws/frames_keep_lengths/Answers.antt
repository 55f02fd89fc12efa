use Rattle.client_run.proofs.Lengths as lengths
use Rattle.client_run.proofs.laws.frames_keep_lengths.Goals as goal

pub returns : goal.returns
returns c = lengths.frames_keep_lengths
