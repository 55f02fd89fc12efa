pub mod AllHeaders
pub mod Duplicates
pub mod InOrder
