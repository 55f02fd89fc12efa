pub mod Asked
pub mod Bodies
pub mod Law
pub mod Questions
pub mod Split
pub mod Stage
pub mod States
pub mod Values
pub use Rattle.question_model.specs.Asked.{AsksTerms, ClauseAsksTerms, IsTerm, OneTree, TreeOrLong, UpdateAsksTerms}
pub use Rattle.question_model.specs.Bodies.{Making, Outcome, argument, arguments, called, made, outcome, returned, run, step, value}
pub use Rattle.question_model.specs.Law.{ClauseLaw, TellsAfter, TellsFalse, UpdateLaw}
pub use Rattle.question_model.specs.Questions.{after_call, arguments_of, cube_after, fails, literal_after, term_after, update, variable}
pub use Rattle.question_model.specs.Split.{IsLongBehind, IsTree, IsTreeBehind, further, here, said}
pub use Rattle.question_model.specs.Stage.{Done, Long, Needs, answered, ask, by_order, is_term, ◌>>=◌}
pub use Rattle.question_model.specs.States.{State, all_hold, any_holds, compared, ended, holds, reached, state}
pub use Rattle.question_model.specs.Values.{are_same, extended, field_of, is_found, is_write_of, led, may_grow, through, unwritten, written, written_in}
