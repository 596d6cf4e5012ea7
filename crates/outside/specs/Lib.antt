pub mod Calls
pub mod Causes
pub mod Entries
pub mod MemoryShelves
pub mod MemorySinks
pub mod Shelves
