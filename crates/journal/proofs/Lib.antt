pub mod Made
pub mod Pairs
pub mod Refusing
pub mod LastRecord
pub mod CommitOrRefuse
pub mod Effects
pub mod Undone
