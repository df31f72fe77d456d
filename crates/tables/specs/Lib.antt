pub mod Exp
pub mod Log
pub mod Erfc
