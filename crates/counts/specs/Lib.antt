pub mod Share
pub mod Rungs
pub mod Rows
pub mod Objective
pub mod Counted
pub mod Answers
pub mod Known
pub mod Refusals
