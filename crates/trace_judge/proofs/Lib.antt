mod Prefixes
mod Lefts
pub mod SetLaws
pub mod RunLaws
pub mod VerdictMoves
mod VerdictLaws
mod TrackFacts
mod Tracking
