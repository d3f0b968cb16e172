pub mod Indices
pub mod Outline
