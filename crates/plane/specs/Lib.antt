pub mod Plane
pub mod Mirror
pub mod Among
pub mod Spends
