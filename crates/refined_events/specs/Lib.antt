pub mod Mismatches
pub mod MatchViews
pub mod Keys
pub mod Sorted
