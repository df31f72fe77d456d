pub mod Buffers
pub mod Unwritten
