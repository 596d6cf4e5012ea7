pub mod TermSets
