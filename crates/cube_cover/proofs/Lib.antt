pub mod Caring
pub mod Ending
pub mod Few
pub mod Listed
pub mod Named
pub mod Order
pub mod Standing
pub mod Words
