pub mod OwnExtents
pub mod Extents
pub mod ExtentViews
pub mod ExtentRules
pub mod Worked
pub mod Capped
