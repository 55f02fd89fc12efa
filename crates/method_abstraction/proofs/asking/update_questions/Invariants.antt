use Rattle.std.proofs.Common.{◌≡◌, ◌++◌, drop}
use Rattle.method_abstraction.specs.Asking as told
use Rattle.method_abstraction.proofs.asking.update_questions.Given as goal

abbrev pub invariant-each : goal.invariant-each
invariant-each l =
    l.questions.items ++ told.updates_by l.number l.family l.method (drop l.method l.spec.methods) ≡ told.updates_by l.number l.family 0 l.spec.methods
