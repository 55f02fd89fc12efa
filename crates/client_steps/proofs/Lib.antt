pub mod Alike
pub mod Corollaries
mod Examples
pub mod Exist
mod Failing
pub mod Once
