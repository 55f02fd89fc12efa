use Rattle.std.proofs.Common.{◌+◌, ◌*◌, length}
use Rattle.cv_read.proofs.Along.{IsAlong}
use Rattle.easl_parser.specs.Reading.{maybe_step_at}
use Rattle.easl_parser.proofs.steps.+steps.Given as goal

abbrev pub decreases-steps : goal.decreases-steps
decreases-steps l = 10 * l.depth

abbrev pub decreases-block : goal.decreases-block
decreases-block l = 10 * l.depth + 1

abbrev pub decreases-end_if : goal.decreases-end_if
decreases-end_if l = 10 * l.depth + 2

abbrev pub decreases-if_step : goal.decreases-if_step
decreases-if_step l = 10 * l.depth + 3

abbrev pub decreases-step : goal.decreases-step
decreases-step l = 10 * l.depth + 4

abbrev pub decreases-maybe_step : goal.decreases-maybe_step
decreases-maybe_step l = 10 * l.depth + 5

abbrev pub decreases-steps_within : goal.decreases-steps_within
decreases-steps_within l = 10 * l.depth + 6

abbrev pub invariant-steps_within-each : goal.invariant-steps_within-each
invariant-steps_within-each l = IsAlong (maybe_step_at l.source.text.now l.depth) l.fn.tokens l.rest l.found

abbrev pub decreases-steps_within-each : goal.decreases-steps_within-each
decreases-steps_within-each l = length l.rest
