pub mod Bools
pub mod Joining
pub mod Members
pub mod Orders
pub mod Reading
pub mod Tables
