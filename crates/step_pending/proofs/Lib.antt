pub mod Lowest
pub mod Requests
