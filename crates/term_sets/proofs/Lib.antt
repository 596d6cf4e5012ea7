pub mod Gathering
mod Apart
mod Choosing
mod Ending
mod Finishing
mod Gaining
mod Holding
mod Leaving
mod Ordering
mod Picking
mod Sorting
mod Stepping
mod Terms
mod Weighing
mod Remembering
mod Pooling
mod Going
mod PoolStepping
