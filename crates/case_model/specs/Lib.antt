pub mod Care
pub mod Configurations
pub mod Disjuncts
pub mod HeapCases
pub mod TermLists
pub use Rattle.case_model.specs.Care.{all_hold, any_holds, care_list, clauses_hold, condition_holds}
pub use Rattle.case_model.specs.Configurations.{AreConfigurations, AreMoreThan, AreNumbered, IsConfiguration, Joined, by_blocks, place_of}
pub use Rattle.case_model.specs.Disjuncts.{Adds, AreDisjuncts, FallsShort, IsImplicant, IsTrueAt, IsWidest, variable_count}
pub use Rattle.case_model.specs.HeapCases.{HasCase, HeapsHaveCases, IsState, case_of, meet, numbers}
pub use Rattle.case_model.specs.TermLists.{AreTermsOf, AreTyped, ClausesHaveClasses, HasLongTerm, HasTerms, HaveClasses, IsPrefix, IsTermList, clauses_of}
pub use Rattle.case_model.specs.TermLists.{first_variable, question_variables, term_of, terms_asked, terms_of_clauses, terms_of_condition}
pub use Rattle.case_model.specs.TermLists.{terms_of_conditions, terms_of_cube, terms_of_tree}
