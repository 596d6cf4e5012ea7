pub mod Orders
pub mod Weaving
pub mod Counts
pub mod Answers
pub mod Columns
pub mod Pairing
pub mod Laws
pub mod RisingEntries
