pub mod PieceViews
pub mod PieceNumbers
pub mod Earliest
pub mod FormedPieces
pub mod ItemNumbers
pub mod ItemEdges
pub mod ItemParts
pub mod ItemOperands
