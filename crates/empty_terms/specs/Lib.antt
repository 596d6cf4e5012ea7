pub mod ChartTerms
pub mod Passing
pub mod Outlines
pub mod Answers
