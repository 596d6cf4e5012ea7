pub mod Consuming
pub mod Reading
