pub mod Joining
pub mod FirstOnes
pub mod TwoRules
