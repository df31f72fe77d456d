pub mod Factorial
pub mod Fits
pub mod Computed
pub mod Above
pub mod ByProduct
pub mod Within
pub mod Finite
