pub mod Wholes
pub mod Writing
