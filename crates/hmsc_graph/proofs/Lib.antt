pub mod EdgeFacts
pub mod EndFacts
pub mod FaultFacts
pub mod LabelFacts
pub mod MemberFacts
pub mod Reaching
pub mod SearchFacts
pub mod WayFacts
