pub mod Litters
pub mod Valid
pub mod All
pub mod Checks
pub mod Groups
pub mod Table
pub mod Kept
pub mod HandedOn
