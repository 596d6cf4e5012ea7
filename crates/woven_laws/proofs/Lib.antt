mod Regions
mod ItemRegions
mod OperandRegions
pub mod Differing
mod WalkedSizes
mod EachPiece
mod OrderSums
mod PieceSums
mod PieceSizes
mod DeclSizes
mod Refined
mod LinkedSizes
mod GraphSizes
mod WovenNames
mod DrawnNames
mod Untied
mod Declaring
mod Creations
mod NamedPieces
pub mod BuiltLaws
pub mod WovenSizes
pub mod EventCounts
mod GatheredCounts
pub mod GatheredJoins
