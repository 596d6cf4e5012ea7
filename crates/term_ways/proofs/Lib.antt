pub mod Derived
mod Searched
