pub mod GraphTexts
pub mod GraphGathering
pub mod GraphPartViews
