pub mod MadeTerms
pub mod DrawnWalks
