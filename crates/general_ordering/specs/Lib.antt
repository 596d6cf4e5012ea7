pub mod NamedEvents
pub mod EventNames
pub mod LevelNames
pub mod OrderCounts
