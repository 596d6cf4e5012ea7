pub mod Constructors
pub mod ExpansionTerms
pub mod Stored
pub mod MadeTerms
pub mod PartTerms
pub mod ExceptionRuns
