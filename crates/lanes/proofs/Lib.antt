pub mod ExpLaws
pub mod LogLaws
pub mod ErfcLaws
