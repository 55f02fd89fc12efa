use Rattle.std.proofs.Common.{◌≡◌, map, take}
use Rattle.std.specs.Option.{option_copied}
use Rattle.case_model.specs.{question_variables}
use Rattle.alias_cases.specs.{class_of_term}
use Rattle.alias_cases.proofs.classes.classes_of.Given as goal

abbrev pub invariant-each : goal.invariant-each
invariant-each l = l.classes ≡ map (class_of_term l.spec (question_variables l.method (option_copied l.family))) (take l.term-index l.list)
