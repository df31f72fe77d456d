pub mod Vet
pub mod Accepted
pub mod Unread
pub mod Refused
pub mod Converged
