-- Entries one to one with the questions.
use Rattle.std.proofs.lemmas.Slice.Zip.{AllZip-long}
use Rattle.method_abstraction.specs.{IsClauseEntry, IsUpdateEntry, OneEntryEach, clause_questions, update_questions}

pub one_entry_each : OneEntryEach
one_entry_each form a exact = (
  AllZip-long (IsClauseEntry form a.families) (clause_questions form) a.clauses exact.clauses,
  AllZip-long (IsUpdateEntry form a.families) (update_questions form a.families) a.updates exact.updates,
)
