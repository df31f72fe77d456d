pub mod Lanes
pub mod ExpParts
pub mod LogParts
pub mod ErfcParts
