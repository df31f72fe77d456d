pub mod Side
pub mod Integrand
pub mod Steps
