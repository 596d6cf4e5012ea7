pub mod Choices
pub mod FirstInstances
pub mod ChoiceLists
pub mod FarEndLaws
pub mod WorkedChoices
