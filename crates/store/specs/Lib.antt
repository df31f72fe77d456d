pub mod Stored
pub mod Given
