pub mod Executing
pub mod Splitting
