pub mod Arranging
pub mod Commuting
pub mod Instances
pub mod Joining
pub mod Lists
pub mod Looping
pub mod Positions
pub mod Running
pub mod Sameness
pub mod Walking
pub mod Equal
pub mod Binding
mod Binds
mod Comparing
pub mod Cuts
pub mod Distinct
mod Dropping
mod Flattening
pub mod Gathering
mod Numbering
pub mod Passing
pub mod Turns
pub mod Members
