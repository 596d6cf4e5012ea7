pub mod ChoiceParts
