pub mod Rows
pub mod Request
pub mod Passed
