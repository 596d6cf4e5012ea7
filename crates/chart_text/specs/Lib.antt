pub mod Texts
pub mod Gathering
pub mod PassageViews
pub mod WellFormed
