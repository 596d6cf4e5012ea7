pub mod Rising
mod LabelOrder
mod GoingOn
mod FoundLabels
mod Marked
