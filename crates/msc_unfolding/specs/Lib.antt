pub mod Unfoldings
pub mod Runs
