pub mod Reads
pub mod Range
pub mod Few
pub mod Counted
