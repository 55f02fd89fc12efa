use Rattle.std.proofs.Common.{◌≡◌, ◌-◌, ◌++◌, map}
use Rattle.std.specs.List.{filter, range_with_len}
use Rattle.method_abstraction.specs.{may_stand, result_sets}
use Rattle.method_abstraction.specs.declared.entry.Question.TheVariants.{Update}
use Rattle.method_abstraction.proofs.asking.push_updates.Given as goal

abbrev pub invariant-each : goal.invariant-each
invariant-each l =
    l.questions.items ++ map (λ results. Update l.number results l.family_number) (filter (may_stand l.method l.family) (range_with_len l.results (8 - l.results)))
    ≡ l.initial.questions.items ++ map (λ results. Update l.number results l.family_number) (result_sets l.method l.family)
