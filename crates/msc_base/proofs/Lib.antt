pub mod TableFacts
pub mod PlaceFacts
pub mod Narrowing
pub mod NameFacts
pub mod WordBytes
