pub mod Bounds
mod Digits
mod Examples
mod WordLaws
