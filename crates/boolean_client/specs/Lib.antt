pub mod Bounds
pub mod ClauseTables
