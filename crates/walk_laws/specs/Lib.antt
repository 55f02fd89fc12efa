pub mod Exactness
pub mod Points
pub mod Premises
