pub mod AccountCodes
pub mod Arenas
pub mod Unstored
