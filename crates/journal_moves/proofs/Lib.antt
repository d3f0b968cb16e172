pub mod Bytes
pub mod FourBytes
