pub mod ListTexts
pub mod NameLists
pub mod NameTexts
pub mod ObjectTexts
pub mod PlainWords
pub mod TextParts
