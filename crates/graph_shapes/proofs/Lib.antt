pub mod ShapeViews
pub mod NetFacts
