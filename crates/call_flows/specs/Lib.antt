pub mod Needs
pub mod Offers
pub mod Search
pub mod Found
pub mod Gifts
pub mod Lists
pub mod Told
