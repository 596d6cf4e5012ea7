pub mod NetValues
pub mod Fitting
pub mod NetTables
pub mod Unions
