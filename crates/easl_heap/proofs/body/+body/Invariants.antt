use Rattle.std.proofs.Common.{◌+◌, ◌-◌, ◌*◌}
use Rattle.easl_heap.specs.{Grows, moment}
use Rattle.easl_heap.proofs.Underway.{InLimits, IsUnderWay}
use Rattle.easl_heap.proofs.body.+body.Given as goal

-- each statement is counted before it is executed
abbrev pub decreases-run : goal.decreases-run
decreases-run l = 4 * (1025 - l.steps)

abbrev pub decreases-construct : goal.decreases-construct
decreases-construct l = 4 * (1025 - l.steps) + 1

abbrev pub decreases-value : goal.decreases-value
decreases-value l = 4 * (1025 - l.steps) + 2

abbrev pub decreases-step : goal.decreases-step
decreases-step l = 4 * (1025 - l.steps) + 3

abbrev pub invariant-run-each : goal.invariant-run-each
invariant-run-each l = record {
  grows : Grows 0 l.initial.objects l.initial.steps l.objects l.steps;
  comes :
      InLimits l.spec l.depth l.acts
      (moment l.initial.objects.items l.initial.slots.items l.initial.steps)
      (IsUnderWay l.spec l.depth l.acts l.act-index
      (moment l.initial.objects.items l.initial.slots.items l.initial.steps)
      (moment l.objects.items l.slots.items l.steps));
}
