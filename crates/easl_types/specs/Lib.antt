pub mod Answers
pub mod Calls
pub mod Constructors
pub mod Counts
pub mod Forms
pub mod Laws
