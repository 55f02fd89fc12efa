pub mod Asked
pub mod Entries
pub mod Exactness
pub mod Joined
pub mod Names
