pub mod PlainEvents
pub mod Coregions
pub mod RefinementRules
pub mod Walks
pub mod Judging
pub mod Earliest
pub mod Worked
