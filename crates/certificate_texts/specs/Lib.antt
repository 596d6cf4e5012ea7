pub mod Texts
pub mod Readings
pub mod TextLaws
pub mod Levels
pub mod Codes
pub mod Numbers
