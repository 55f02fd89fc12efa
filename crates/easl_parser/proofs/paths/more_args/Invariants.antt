use Rattle.std.proofs.Common.{length}
use Rattle.cv_read.specs.{next_at}
use Rattle.cv_read.proofs.Along.{IsAlong}
use Rattle.easl_parser.specs.Reading.{arg_at}
use Rattle.easl_parser.proofs.paths.more_args.Given as goal

abbrev pub invariant-each : goal.invariant-each
invariant-each l = IsAlong (next_at (arg_at l.source.text.now)) l.fn.tokens l.rest l.found

abbrev pub decreases-each : goal.decreases-each
decreases-each l = length l.rest
