pub mod ChartVerdicts
pub mod ChartBudgets
pub mod NextLabels
pub mod ChartsTold
pub mod Judging
pub mod LargestWeights
