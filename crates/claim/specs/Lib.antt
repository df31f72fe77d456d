pub mod Claim
pub mod Give
pub mod Zeros
