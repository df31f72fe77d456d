pub mod Tail
pub mod Bound
pub mod Reasons
