pub mod Claimed
pub mod Claiming
pub mod Points
pub mod Spelled
