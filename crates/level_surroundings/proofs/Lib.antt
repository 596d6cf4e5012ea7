pub mod Dropped
pub mod KeyFacts
pub mod CallFacts
pub mod FarFacts
pub mod ChartNames
pub mod RefinementFacts
