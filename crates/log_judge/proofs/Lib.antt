pub mod Few
pub mod Takings
pub mod Faults
mod LogJudging
