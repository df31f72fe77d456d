pub mod Answer
pub mod Answered
pub mod Kept
