use Rattle.client_model.proofs.SetReads as reads
use Rattle.client_model.proofs.laws.reads_are_set.Goals as goal

pub returns-clause-points : goal.returns-clause-points
returns-clause-points c = reads.reads_set

pub returns-clause-calls : goal.returns-clause-calls
returns-clause-calls c = reads.arguments_set
