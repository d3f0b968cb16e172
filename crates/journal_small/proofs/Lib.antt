pub mod CommonStep
pub mod Frame
