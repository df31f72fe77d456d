pub mod ReadLaws
pub mod TokenLaws
pub mod ValueLaws
