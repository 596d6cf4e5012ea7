pub mod Drawn
pub mod Bars
pub mod LastBars
pub mod Fronts
pub mod Rows
pub mod Ranking
pub mod Sorting
