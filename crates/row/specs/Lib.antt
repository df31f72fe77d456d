pub mod Peak
pub mod Share
pub mod Bound
pub mod Reasons
