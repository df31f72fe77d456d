pub mod Legendre
pub mod Pairs
