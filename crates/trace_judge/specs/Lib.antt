pub mod Sets
pub mod Logs
pub mod Verdicts
pub mod VerdictsBy
pub mod Tracks
pub mod Laws
pub mod Steps
pub mod Advances
