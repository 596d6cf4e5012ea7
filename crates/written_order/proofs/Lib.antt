pub mod Between
pub mod RisingRanks
pub mod Rises
