mod Asked
mod Dropped
pub mod Kept
mod Judging
mod MadeAgree
pub mod MadeReady
mod MadeSteps
mod NetShapes
mod OneChoice
mod RowSteps
mod WalkSteps
mod Within
