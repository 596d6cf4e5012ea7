pub mod GraphRules
pub mod GraphViews
pub mod StuckLines
pub mod EndingGraphs
