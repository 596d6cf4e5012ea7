pub mod MessageLaws
mod KnownLaws
mod MapSteps
mod CalledEnds
mod ChartTables
mod FactLaws
mod KeptSteps
mod NamedSteps
mod ViewFacts
