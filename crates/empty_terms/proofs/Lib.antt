pub mod Numbering
pub mod Emptying
pub mod Serving
