pub mod Request
pub mod Rows
pub mod Long
pub mod BothWays
pub mod Filled
pub mod Points
pub mod Departure
pub mod LineNumber
