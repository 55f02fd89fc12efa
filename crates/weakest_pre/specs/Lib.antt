pub mod Growing
pub mod Running
pub use Rattle.weakest_pre.specs.Growing.{HasClause, IsClauseAt, IsClauseSplit, IsSplit}
