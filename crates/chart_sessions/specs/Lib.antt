pub mod SessionVerdicts
pub mod Judging
