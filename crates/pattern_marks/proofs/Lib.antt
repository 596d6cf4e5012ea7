pub mod Holding
pub mod MarkReading
pub mod Meeting
pub mod Raising
pub mod Testing
pub mod Tying
pub mod Waits
