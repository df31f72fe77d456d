pub mod Series
pub mod Exp
pub mod Log
pub mod Log1p
pub mod Erfc
pub mod Lgamma
pub mod Cos
pub mod Hypot
