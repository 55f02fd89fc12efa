pub mod Answers
pub mod Faults
pub mod Read
pub mod Types
pub use Rattle.cv_read.specs.Answers.{FindsTree, IsFirstWrongAt, IsTooDeepAt, Language, OneAnswer}
pub use Rattle.cv_read.specs.Faults.{DeepAt, Nests, WrongAt, place_where, placed}
pub use Rattle.cv_read.specs.Read.{Deep, Fails, Finds, FindsRest, FirstIs, Gives, GivesRest, GivesWhole, Got, Stuck, before_mark, begins, behind_key}
pub use Rattle.cv_read.specs.Read.{behind_mark, choose, commas_at, done_at, is_key, is_mark, is_name, key_at, key_place_at, listed_at, literal_at}
pub use Rattle.cv_read.specs.Read.{many_at, mark_at, mark_place_at, more_at, name_at, next_at, nothing_of, parens_at, pick, place_of, put_front, step_at}
pub use Rattle.cv_read.specs.Read.{take_at, then_more, whole_at, ◌>>=◌}
pub use Rattle.cv_read.specs.Types.{class_param_at, class_type_at, is_opaque, opaque_at, opaque_in, opaque_of, opaque_param_at, param_behind}
pub use Rattle.cv_read.specs.Types.{placed_opaque, type_at, type_starts}
unfoldable pub use Rattle.cv_read.specs.Read.{items_at}
unfoldable pub use Rattle.cv_read.specs.Types.{param_at, params_at}
