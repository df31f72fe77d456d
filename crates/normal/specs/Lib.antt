pub mod Normal
pub mod Conditional
pub mod Twins
