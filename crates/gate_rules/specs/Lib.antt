pub mod GateRules
pub mod Callers
pub mod Claims
pub mod KnownGates
pub mod Judging
pub mod Noted
pub mod GateLaws
