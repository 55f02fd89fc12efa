pub mod Extended
pub mod Indexed
pub mod Reached
pub mod Orders
pub mod SoFar
pub mod Successors
pub mod Tables
