use Rattle.std.proofs.Common.{◌≡◌, drop}
use Rattle.std.specs.Option.{option_copied}
use Rattle.case_model.specs.{question_variables}
use Rattle.alias_cases.specs.{class_along, class_of_term}
use Rattle.alias_cases.proofs.classes.class_of.Given as goal

abbrev pub invariant-each : goal.invariant-each
invariant-each l = class_along l.spec l.class (drop l.field-index l.term.fields) ≡ class_of_term l.spec (question_variables l.fn.method (option_copied l.fn.family)) l.term
