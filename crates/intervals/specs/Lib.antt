pub mod Shape
pub mod Passed
pub mod Factor
pub mod Interval
pub mod Intervals
pub mod Proper
