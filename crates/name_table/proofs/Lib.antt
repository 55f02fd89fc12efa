pub mod Looking
pub mod Positions
