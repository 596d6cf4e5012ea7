pub mod NumberedRuns
pub mod MeaningTells
pub mod ChartsTold
pub mod MessageTold
pub mod SetsThere
pub mod Budgets
