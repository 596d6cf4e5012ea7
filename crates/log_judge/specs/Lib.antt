pub mod Ends
pub mod Faults
pub mod Judged
pub mod RuledFaults
pub mod RuledTaking
pub mod States
pub mod Taking
