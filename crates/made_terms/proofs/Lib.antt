pub mod WalkNumbers
mod SoundNets
mod DrawnWalks
