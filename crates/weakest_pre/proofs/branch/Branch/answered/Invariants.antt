use Rattle.std.proofs.Common.{◌≡◌, drop}
use Rattle.question_model.specs.Stage as stages
use Rattle.weakest_pre.proofs.branch.Branch.answered.Given as goal

abbrev pub invariant-each : goal.invariant-each
invariant-each l =
    stages.answered (drop l.answer-index l.self.answers.now) l.less l.more ≡ stages.answered l.self.answers.now l.less l.more
