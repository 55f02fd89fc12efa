pub mod Causes
pub mod Code
pub mod Memory
