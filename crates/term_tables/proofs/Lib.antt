mod Nodes
mod Tabling
pub mod TouchFacts
mod FitFacts
