pub mod CappedFacts
pub mod Unique
pub mod LimitFacts
pub mod WorkedFacts
pub mod SizedFacts
pub mod OwnLevels
