pub mod Bounds
pub mod ExpressionGrammar
pub mod ExpressionReaders
pub mod GraphGrammar
pub mod GraphReaders
pub mod Levels
