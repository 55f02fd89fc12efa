pub mod Adding
pub mod Asking
pub mod Lists
pub mod Put
pub mod Steps
