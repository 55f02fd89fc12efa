use Rattle.std.proofs.Common.{◌≡◌, ◌+◌, ◌*◌, drop}
use Rattle.easl_model.specs.{statement_of, statements_of, written_by, written_in}
use Rattle.question_model.specs.{made, state}
use Rattle.question_model.specs.Bodies as told
use Rattle.weakest_pre.specs.Running.{most}
use Rattle.weakest_pre.proofs.branch.Branch.+body.Given as goal

-- a constructor's body has at most 64 statements
abbrev pub decreases-construct : goal.decreases-construct
decreases-construct l = 200 * l.depth

abbrev pub decreases-value : goal.decreases-value
decreases-value l = 200 * l.depth + 1

abbrev pub decreases-step : goal.decreases-step
decreases-step l = 200 * l.depth + 3 * written_by (statement_of l.act.now)

abbrev pub decreases-run : goal.decreases-run
decreases-run l = 200 * l.depth + 3 * written_in (statements_of l.acts.now) + 1

abbrev pub decreases-block : goal.decreases-block
decreases-block l = 200 * l.depth + 3 * written_in (statements_of l.acts.now) + 2

abbrev pub invariant-run-each : goal.invariant-run-each
invariant-run-each l =
    told.run l.self.spec.now most l.self.answers.now (made l.self.spec.now most l.self.answers.now l.depth)
    (statements_of (drop l.act-index l.acts)) (state l.slots.items l.effects.writes.items l.effects.count)
    ≡ told.run l.self.spec.now most l.self.answers.now (made l.self.spec.now most l.self.answers.now l.depth)
    (statements_of l.acts) (state l.initial.slots.items l.initial.effects.writes.items l.initial.effects.count)
