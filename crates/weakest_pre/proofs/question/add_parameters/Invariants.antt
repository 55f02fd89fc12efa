use Rattle.std.proofs.Common.{◌≡◌, ◌+◌, ◌++◌, drop}
use Rattle.question_model.specs.Questions as told
use Rattle.weakest_pre.proofs.question.add_parameters.Given as goal

abbrev pub invariant-each : goal.invariant-each
invariant-each l = record {
  number : l.number ≡ l.class-index + 4;
  values : l.values.items ++ told.variables l.number (drop l.class-index l.params) ≡ l.initial.values.items ++ told.variables 4 l.params;
}
