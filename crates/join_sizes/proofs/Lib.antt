mod Counts
mod RankedCharts
pub mod JoinSizeLaws
