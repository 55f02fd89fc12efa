pub mod Asking
pub mod Exact
pub mod Laws
pub mod Texts
pub use Rattle.method_abstraction.specs.Asking.{clause_count, clause_questions, clauses_from, gives, may_stand, questions, result_sets, update_questions}
pub use Rattle.method_abstraction.specs.Asking.{updates_by, updates_from}
pub use Rattle.method_abstraction.specs.Exact.{HasExactEntries, IsClauseEntry, IsDisjunctOf, IsExactClause, IsExactUpdate, IsUpdateEntry, disjunct_holds}
pub use Rattle.method_abstraction.specs.Laws.{ClausesAreExact, OneEntryEach, SaysSame, UpdatesAreExact, one_holds}
pub use Rattle.method_abstraction.specs.Texts.{abstraction_text, asked_text, class_name_of, clause_line, cube_text, disjunct_text, facts_text, families_text}
pub use Rattle.method_abstraction.specs.Texts.{family_name, family_text, fields_text, instance_text, joined, literal_text, method_text, names_text}
pub use Rattle.method_abstraction.specs.Texts.{results_text, term_text, update_line, var, variable_text, variables_text, written_line}
