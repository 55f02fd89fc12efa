pub mod Code
pub mod Points
