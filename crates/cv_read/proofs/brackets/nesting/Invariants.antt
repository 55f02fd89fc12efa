use Rattle.std.proofs.Common.{length}
use Rattle.cv_read.proofs.Unclosed.{IsCounted}
use Rattle.cv_read.proofs.brackets.nesting.Given as goal

abbrev pub invariant-each : goal.invariant-each
invariant-each l = IsCounted l.fn.tokens l.rest l.level

abbrev pub decreases-each : goal.decreases-each
decreases-each l = length l.rest
