use Rattle.std.proofs.Common.{◌≡◌, drop}
use Rattle.question_model.specs.Values as told
use Rattle.weakest_pre.specs.Running.{most}
use Rattle.weakest_pre.proofs.branch.Branch.through.Given as goal

abbrev pub invariant-each : goal.invariant-each
invariant-each l =
    told.through l.self.spec.now most l.self.answers.now l.class l.value l.position (drop l.write-index l.writes)
    ≡ told.through l.self.spec.now most l.self.answers.now l.class l.value l.position l.writes
