pub mod Summary
pub mod Most
pub mod Both
pub mod Refused
