pub mod NodeFacts
pub mod PlainOrder
