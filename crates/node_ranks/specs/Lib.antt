pub mod NamedCharts
pub mod NodeRanks
