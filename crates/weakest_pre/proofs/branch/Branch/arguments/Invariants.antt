use Rattle.std.proofs.Common.{◌≡◌, drop, ◌++◌}
use Rattle.question_model.specs.Bodies as told
use Rattle.question_model.specs.{Done, state, ◌>>=◌}
use Rattle.weakest_pre.specs.Running.{most}
use Rattle.weakest_pre.proofs.branch.Branch.arguments.Given as goal

abbrev pub invariant-each : goal.invariant-each
invariant-each l =
    told.arguments l.self.spec.now most l.self.answers.now (state l.slots l.effects.writes.items l.effects.count) (drop l.arg-index l.args)
    >>= (λ vs. Done (l.values.items ++ vs))
    ≡ told.arguments l.self.spec.now most l.self.answers.now (state l.slots l.effects.writes.items l.effects.count) l.args
