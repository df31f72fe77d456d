pub mod Panel
pub mod Bound
pub mod Reasons
