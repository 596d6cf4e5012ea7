pub mod WalkSets
pub mod NetNodes
pub mod GraphMade
pub mod SharedNumbers
pub mod NodeRules
pub mod NodeLists
pub mod Added
pub mod WorkedWalk
