pub mod Host
pub mod Checks
pub mod OneAnswer
