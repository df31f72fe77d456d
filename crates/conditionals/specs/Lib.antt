pub mod Normals
pub mod Tails
pub mod Conditionals
