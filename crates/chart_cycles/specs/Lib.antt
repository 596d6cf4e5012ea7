pub mod Cycles
pub mod Written
