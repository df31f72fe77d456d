pub mod Gap
pub mod Units
pub mod Magnitude
pub mod Rounded
pub mod Beside
