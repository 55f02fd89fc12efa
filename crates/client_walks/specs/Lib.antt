pub mod Alarms
pub mod Edges
pub mod Failures
pub mod PathPrograms
pub mod Paths
pub mod Same
pub mod Walks
