pub mod SameNames
pub mod Walks
