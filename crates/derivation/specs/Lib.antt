pub mod Closing
pub mod Ends
pub mod Faults
pub mod Laws
pub mod Meeting
pub mod Replies
pub mod Rounds
