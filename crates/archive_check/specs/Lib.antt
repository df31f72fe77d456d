pub mod Check
pub mod Exactly
