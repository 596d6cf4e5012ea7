pub mod PartRules
pub mod Noting
pub mod Sharing
