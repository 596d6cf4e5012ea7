pub mod Order
pub mod NextLabels
pub mod Found
pub mod Marks
