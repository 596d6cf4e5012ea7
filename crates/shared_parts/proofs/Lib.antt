mod Pairs
mod Walked
mod SameFacts
mod ColumnLaws
mod CoverLaws
mod SharingLaws
pub mod LevelLaws
