pub mod ByTables
