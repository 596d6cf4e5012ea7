pub mod ChoiceTexts
pub mod Lists
pub mod NextTexts
pub mod Objects
pub mod SampleTexts
pub mod SessionTexts
pub mod Texts
pub mod Writing
