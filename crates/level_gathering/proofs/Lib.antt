pub mod NotingSteps
pub mod OneTable
pub mod ChartSteps
pub mod LevelCounts
