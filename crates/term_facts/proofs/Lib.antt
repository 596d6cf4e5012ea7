pub mod Coding
pub mod Listing
pub mod Members
mod Missing
