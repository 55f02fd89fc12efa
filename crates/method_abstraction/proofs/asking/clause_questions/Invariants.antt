use Rattle.std.proofs.Common.{◌≡◌, ◌++◌, drop}
use Rattle.method_abstraction.specs.Asking as told
use Rattle.method_abstraction.proofs.asking.clause_questions.Given as goal

abbrev pub invariant-each : goal.invariant-each
invariant-each l = l.questions.items ++ told.clauses_from l.number (drop l.number l.spec.methods) ≡ told.clause_questions l.spec
