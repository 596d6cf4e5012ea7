pub mod GatheringLaws
pub mod StandingLaws
