pub mod Answer
pub mod Closure
pub mod Faults
pub mod Known
pub mod Last
pub mod Least
pub mod Same
