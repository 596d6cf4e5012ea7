pub mod GraphFacts
mod EndingGraphs
