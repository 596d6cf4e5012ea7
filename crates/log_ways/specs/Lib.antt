pub mod LogWays
pub mod Stepping
pub mod Trails
