pub mod Request
pub mod Checks
pub mod Box
