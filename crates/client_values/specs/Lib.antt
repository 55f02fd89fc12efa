pub mod Calling
pub mod Knowing
pub mod ToldFaults
pub mod ToldKinds
