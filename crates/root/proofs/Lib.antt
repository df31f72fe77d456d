pub mod Middle
pub mod Rounded
