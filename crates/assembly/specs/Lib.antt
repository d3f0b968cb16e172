pub mod Chain
pub mod Names
pub mod Listing
pub mod Calls
pub mod Meeting
