pub mod Node
pub mod Nodes
pub mod Stages
pub mod Batch
