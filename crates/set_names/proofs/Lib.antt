pub mod Ascending
pub mod Codes
mod Examples
pub mod Numbers
pub mod Standing
pub mod Trails
