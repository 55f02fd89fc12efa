pub mod Cases
pub mod Numbers
pub mod Places
pub mod Terms
pub mod Clauses
