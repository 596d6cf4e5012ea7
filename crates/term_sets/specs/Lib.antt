pub mod Gathers
pub mod Keys
pub mod Memories
pub mod Serving
pub mod Subsets
pub mod Words
pub mod Forms
