pub mod NumberLaws
pub mod JoinSums
pub mod GraphNames
pub mod BuiltCharts
pub mod JoinedCharts
