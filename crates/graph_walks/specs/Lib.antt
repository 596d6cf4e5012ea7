pub mod LineUnfoldings
pub mod NodeTerms
pub mod GraphLaws
pub mod NodeParts
pub mod AddedNets
pub mod WorkedWalk
