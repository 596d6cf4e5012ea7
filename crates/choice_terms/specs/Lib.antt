pub mod JudgedParts
pub mod ChoiceLaws
