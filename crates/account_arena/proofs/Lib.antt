pub mod Adding
pub mod Growing
pub mod Cutting
