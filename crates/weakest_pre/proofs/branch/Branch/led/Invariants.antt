use Rattle.std.proofs.Common.{◌≡◌, drop}
use Rattle.question_model.specs.Values as told
use Rattle.weakest_pre.specs.Running.{most}
use Rattle.weakest_pre.proofs.branch.Branch.led.Given as goal

abbrev pub invariant-each : goal.invariant-each
invariant-each l =
    told.led l.self.spec.now most l.self.answers.now l.writes l.object (drop l.field-index l.fields)
    ≡ told.led l.self.spec.now most l.self.answers.now l.writes l.value l.fields
