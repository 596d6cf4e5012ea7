pub mod Budgets
pub mod Charts
pub mod Labelled
pub mod Meaning
pub mod SetsThere
pub mod Telling
