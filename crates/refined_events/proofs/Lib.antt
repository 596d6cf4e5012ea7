pub mod KeyLaws
pub mod MapLaws
pub mod CountLaws
pub mod MatchLaws
pub mod Unrefined
pub mod Walks
