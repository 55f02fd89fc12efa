pub mod Asked
pub mod Readable
