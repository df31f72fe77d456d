pub mod TailsLaws
pub mod NormalsLaws
pub mod Laws
