pub mod Bytes
pub mod Logged
pub mod Moved
pub mod Reached
pub mod Seen
pub mod Stored
