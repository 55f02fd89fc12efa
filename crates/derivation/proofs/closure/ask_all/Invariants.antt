use Rattle.std.proofs.Common.{◌≡◌, ℕ, ◌+◌, ◌≤◌, List, ◌++◌, length}
use Rattle.access_paths.specs.declared.term.Family.{Family}
use Rattle.derivation.specs.Rounds.{AreNext, IsSoFar}
use Rattle.derivation.proofs.closure.ask_all.Given as goal

abbrev pub invariant-each : goal.invariant-each
invariant-each l = record {
  so_far : (n : ℕ) → IsSoFar l.spec n l.fn.found.families.items l.fn.found.clauses.items l.fn.found.updates.items
      → AreNext l.spec l.fn.found.families.items n l.questions
      → IsSoFar l.spec (n + l.question-index) l.found.families.items l.found.clauses.items l.found.updates.items;
  longer : (more : List Family) × (l.found.families.items ≡ l.fn.found.families.items ++ more);
  few : length l.found.families.items ≤ 64;
}
