pub mod Checks
pub mod Effect
pub mod LastRecord
