pub mod Forms
pub mod Showing
pub mod Tasks
