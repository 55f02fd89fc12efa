pub mod Alarms
mod Ends
pub mod Paths
