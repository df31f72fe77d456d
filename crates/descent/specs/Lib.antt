pub mod Status
pub mod Descent
pub mod Stopping
pub mod Asking
pub mod Refusals
pub mod Claims
pub mod Points
