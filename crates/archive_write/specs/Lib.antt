pub mod Archive
pub mod Puts
pub mod ReadBack
