pub mod Holding
pub mod Logged
pub mod RunsTold
pub mod TermLaws
