pub mod Classes
pub mod Gathering
pub mod Levels
pub mod Short
pub mod Steps
pub mod Rows
pub use Rattle.alias_cases.specs.Classes.{class_along, class_of_term, start_class}
pub use Rattle.alias_cases.specs.Gathering.{Gathers, inserted, put_by}
pub use Rattle.alias_cases.specs.Levels.{extended, fitting_blocks, fitting_by, is_alike, led_to, next_level, open_blocks}
pub use Rattle.alias_cases.specs.Rows.{AreAllSet, AreMet, AreRowsOf, IsChosen, case_count, is_true_at, literal_count, truths_of}
pub use Rattle.alias_cases.specs.Short.{are_short, is_short}
pub use Rattle.alias_cases.specs.Steps.{AreSteps, IsClosed, IsStepTo}
