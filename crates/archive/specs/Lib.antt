pub mod Layout
pub mod Shaped
pub mod Counts
pub mod Right
pub mod Split
pub mod Most
