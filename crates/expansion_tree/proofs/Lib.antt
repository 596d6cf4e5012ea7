pub mod ViewFacts
