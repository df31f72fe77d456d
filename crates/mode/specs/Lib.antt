pub mod Bracket
pub mod Mode
pub mod Bound
pub mod Reasons
