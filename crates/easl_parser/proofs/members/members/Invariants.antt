use Rattle.std.proofs.Common.{length}
use Rattle.cv_read.proofs.Along.{IsAlong}
use Rattle.easl_parser.specs.Reading.{maybe_member_at}
use Rattle.easl_parser.proofs.members.members.Given as goal

abbrev pub invariant-each : goal.invariant-each
invariant-each l = IsAlong (maybe_member_at l.source.text.now l.depth) l.fn.tokens l.rest l.found

abbrev pub decreases-each : goal.decreases-each
decreases-each l = length l.rest
