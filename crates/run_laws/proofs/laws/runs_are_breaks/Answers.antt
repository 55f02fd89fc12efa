use Rattle.run_laws.proofs.Whole as whole
use Rattle.run_laws.proofs.laws.runs_are_breaks.Goals as goal

pub returns : goal.returns
returns c = whole.runs_are_breaks
