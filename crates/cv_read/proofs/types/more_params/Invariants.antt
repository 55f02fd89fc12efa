use Rattle.std.proofs.Common.{length}
use Rattle.cv_read.specs.{next_at, param_at}
use Rattle.cv_read.proofs.Along.{IsAlong}
use Rattle.cv_read.proofs.types.more_params.Given as goal

abbrev pub invariant-each : goal.invariant-each
invariant-each l = IsAlong (next_at (param_at l.source.text.now)) l.fn.tokens l.rest l.found

abbrev pub decreases-each : goal.decreases-each
decreases-each l = length l.rest
