mod Back
mod Exits
mod Forth
pub mod Whole
