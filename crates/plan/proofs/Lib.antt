pub mod Decided
pub mod Logged
