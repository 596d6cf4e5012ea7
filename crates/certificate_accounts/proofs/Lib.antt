pub mod MarkedShapes
pub mod Telling
pub mod JoinsBack
pub mod RowsBack
pub mod PermitsBack
pub mod StepsBack
pub mod Certifying
pub mod TablesBack
mod EmptyWays
mod WalkExample
mod Examples
