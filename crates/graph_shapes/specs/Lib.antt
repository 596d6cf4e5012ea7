pub mod GraphShapes
pub mod GraphNets
pub mod GraphLists
