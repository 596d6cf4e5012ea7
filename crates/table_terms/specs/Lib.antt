pub mod TableTerms
pub mod SoundGraphs
pub mod TableLaws
pub mod WorkedPremises
