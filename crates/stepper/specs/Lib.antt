pub mod Machine
pub mod Stands
