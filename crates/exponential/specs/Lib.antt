pub mod Statement
pub mod Parts
pub mod Steps
pub mod Found
pub mod Range
