pub mod SessionEvents
pub mod SessionVerdicts
pub mod States
pub mod Steps
pub mod Tracks
