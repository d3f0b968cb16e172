pub mod JournalBounds
pub mod Merge
pub mod Outcomes
pub mod Sorting
pub mod Within
pub mod Written
