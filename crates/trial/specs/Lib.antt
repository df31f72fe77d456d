pub mod Judged
pub mod Watch
