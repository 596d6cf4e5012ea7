pub mod BodyEvents
pub mod BuiltBodies
pub mod TiedTexts
pub mod LoopBounds
pub mod ChartSizes
pub mod TableSizes
