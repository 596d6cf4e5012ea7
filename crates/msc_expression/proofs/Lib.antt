pub mod BoundRules
pub mod Exact
pub mod ExpressionRules
pub mod Forms
pub mod GraphRules
pub mod Kept
pub mod LineForms
pub mod PartLoops
