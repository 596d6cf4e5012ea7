pub mod TableEntries
mod NamedBodies
mod FreeEnds
pub mod WholeTables
mod EndingGraphs
mod NestedTables
mod LevelPairs
mod FewTables
mod ExpandedEvents
pub mod TableRoom
pub mod Judging
pub mod Known
pub mod Verdicts
mod Largest
mod NextLabels
