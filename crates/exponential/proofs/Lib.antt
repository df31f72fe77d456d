pub mod Near
pub mod Range
pub mod Reduced
