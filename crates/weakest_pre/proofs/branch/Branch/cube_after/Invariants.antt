use Rattle.std.proofs.Common.{◌≡◌, drop}
use Rattle.question_model.specs.Questions as told
use Rattle.weakest_pre.specs.Running.{most}
use Rattle.weakest_pre.proofs.branch.Branch.cube_after.Given as goal

abbrev pub invariant-each : goal.invariant-each
invariant-each l =
    told.cube_after l.self.spec.now most l.self.answers.now l.writes l.variables (drop l.literal-index l.literals)
    ≡ told.cube_after l.self.spec.now most l.self.answers.now l.writes l.variables l.literals
