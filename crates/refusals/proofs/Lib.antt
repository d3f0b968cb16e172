pub mod Built
pub mod Own
pub mod Stored
pub mod Exactly
pub mod Outside
pub mod Rings
