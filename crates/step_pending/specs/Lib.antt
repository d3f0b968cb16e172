pub mod NothingPending
pub mod Timer
