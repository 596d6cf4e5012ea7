pub mod Blocks
pub mod NodeSets
pub mod Stores
