pub mod Placing
pub mod Creating
pub mod Stopping
pub mod Worked
