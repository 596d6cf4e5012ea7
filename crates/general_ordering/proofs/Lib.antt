mod Groups
mod NameNumbers
mod LowestFacts
mod Tests
pub mod ViewFacts
pub mod NamesOnce
