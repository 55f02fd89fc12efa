use Rattle.std.proofs.Common.{length}
use Rattle.cv_read.proofs.Along.{IsAlong}
use Rattle.easl_parser.specs.Reading.{maybe_class_at}
use Rattle.easl_parser.specs.declared.whole.TheConstants.{MOST_NESTED}
use Rattle.easl_parser.proofs.whole.more_classes.Given as goal

abbrev pub invariant-each : goal.invariant-each
invariant-each l = IsAlong (maybe_class_at l.source.text.now MOST_NESTED) l.fn.tokens l.rest l.found

abbrev pub decreases-each : goal.decreases-each
decreases-each l = length l.rest
