pub mod BitFacts
pub mod RowFacts
pub mod TableFacts
pub mod FaultFacts
pub mod RankFacts
pub mod WorkedFacts
pub mod SummaryFacts
pub mod SetFacts
