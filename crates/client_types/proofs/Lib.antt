pub mod Fitting
pub mod InRange
