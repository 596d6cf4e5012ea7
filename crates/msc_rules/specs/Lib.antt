pub mod Rules
pub mod FirstFaults
