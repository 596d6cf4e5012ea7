pub mod JoinSizes
pub mod JoinSizeLaws
pub mod Counted
pub mod Named
