pub mod HeldGates
pub mod GateWays
pub mod FarEndViews
pub mod Givens
pub mod DecomposedInstances
pub mod RefiningViews
pub mod TableEnds
