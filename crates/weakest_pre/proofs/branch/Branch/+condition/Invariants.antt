use Rattle.std.proofs.Common.{◌≡◌, drop, map}
use Rattle.easl_model.specs.{condition_of, conditions}
use Rattle.question_model.specs.{state}
use Rattle.question_model.specs.States as told
use Rattle.weakest_pre.specs.Running.{most}
use Rattle.weakest_pre.proofs.branch.Branch.+condition.Given as goal

abbrev pub invariant-all_hold-each : goal.invariant-all_hold-each
invariant-all_hold-each l =
    told.all_hold l.self.spec.now most l.self.answers.now (state l.slots l.effects.writes.items l.effects.count)
    (conditions (map condition_of (drop l.test-index l.tests)))
    ≡ told.all_hold l.self.spec.now most l.self.answers.now (state l.slots l.effects.writes.items l.effects.count) (conditions (map condition_of l.tests))

abbrev pub invariant-any_holds-each : goal.invariant-any_holds-each
invariant-any_holds-each l =
    told.any_holds l.self.spec.now most l.self.answers.now (state l.slots l.effects.writes.items l.effects.count)
    (conditions (map condition_of (drop l.test-index l.tests)))
    ≡ told.any_holds l.self.spec.now most l.self.answers.now (state l.slots l.effects.writes.items l.effects.count) (conditions (map condition_of l.tests))
