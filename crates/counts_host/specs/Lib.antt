pub mod Host
pub mod Unwritten
