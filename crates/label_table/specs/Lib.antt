pub mod Keys
pub mod Labels
pub mod Stores
