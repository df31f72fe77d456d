pub mod Coefficient
pub mod Tied
pub mod Exchanged
pub mod Nothing
