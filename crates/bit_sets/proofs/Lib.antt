pub mod BitFacts
pub mod RisingFacts
pub mod WordFacts
pub mod SetFacts
pub mod NodeSetFacts
pub mod FirstWords
