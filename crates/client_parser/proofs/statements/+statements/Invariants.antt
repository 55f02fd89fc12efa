use Rattle.std.proofs.Common.{◌+◌, ◌*◌, length}
use Rattle.cv_read.proofs.Along.{IsAlong}
use Rattle.client_parser.specs.Reading.{maybe_stmt_at}
use Rattle.client_parser.proofs.statements.+statements.Given as goal

abbrev pub decreases-stmts : goal.decreases-stmts
decreases-stmts l = 10 * l.depth

abbrev pub decreases-block : goal.decreases-block
decreases-block l = 10 * l.depth + 1

abbrev pub decreases-end_if : goal.decreases-end_if
decreases-end_if l = 10 * l.depth + 2

abbrev pub decreases-if_stmt : goal.decreases-if_stmt
decreases-if_stmt l = 10 * l.depth + 3

abbrev pub decreases-while_stmt : goal.decreases-while_stmt
decreases-while_stmt l = 10 * l.depth + 3

abbrev pub decreases-no_if : goal.decreases-no_if
decreases-no_if l = 10 * l.depth + 4

abbrev pub decreases-stmt : goal.decreases-stmt
decreases-stmt l = 10 * l.depth + 5

abbrev pub decreases-maybe_stmt : goal.decreases-maybe_stmt
decreases-maybe_stmt l = 10 * l.depth + 6

abbrev pub decreases-stmts_within : goal.decreases-stmts_within
decreases-stmts_within l = 10 * l.depth + 7

abbrev pub invariant-stmts_within-each : goal.invariant-stmts_within-each
invariant-stmts_within-each l = IsAlong (maybe_stmt_at l.source.text.now l.depth) l.fn.tokens l.rest l.found

abbrev pub decreases-stmts_within-each : goal.decreases-stmts_within-each
decreases-stmts_within-each l = length l.rest
