pub mod Fraction
pub mod Polynomial
pub mod Exponential
pub mod Enclosure
