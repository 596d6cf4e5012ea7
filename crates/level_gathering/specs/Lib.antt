pub mod Gathered
pub mod GatheredCharts
pub mod GatheringLaws
pub mod ReferenceViews
pub mod Noting
