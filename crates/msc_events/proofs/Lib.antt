pub mod DeclarationRules
pub mod EventRules
pub mod HeadLists
pub mod LogAnswers
pub mod LogRules
pub mod LogTexts
pub mod MultiRules
