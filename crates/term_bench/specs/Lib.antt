pub mod Charts
pub mod Homes
pub mod Statements
