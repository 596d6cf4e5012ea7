pub mod Children
pub mod Searches
pub mod Skips
pub mod Reaching
pub mod AllAfter
pub mod Gatherings
pub mod Kept
