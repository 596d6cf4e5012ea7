pub mod Expansions
pub mod Numbered
pub mod Views
pub mod Walks
