pub mod Stops
pub mod Ranks
pub mod Precedence
pub mod Webs
