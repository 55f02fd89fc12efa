use Rattle.std.proofs.Common.{◌≡◌, ◌++◌, map}
use Rattle.std.specs.List.{range_with_len}
use Rattle.method_abstraction.specs.declared.entry.Question.TheVariants.{Clause}
use Rattle.method_abstraction.proofs.asking.push_clauses.Given as goal

abbrev pub invariant-each : goal.invariant-each
invariant-each l = l.questions.items ≡ l.initial.questions.items ++ map (λ k. Clause l.method k) (range_with_len 1 l.index)
