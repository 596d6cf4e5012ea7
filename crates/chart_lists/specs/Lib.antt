pub mod Listing
pub mod ListedNames
