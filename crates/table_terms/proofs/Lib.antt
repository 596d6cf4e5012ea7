mod Numbered
pub mod NumberedCharts
mod StoredCharts
mod InstanceNumbers
mod EachWalks
mod ChartWalks
pub mod PlacedTerms
pub mod SoundCharts
mod MeantCharts
mod LightCharts
mod TableLaws
mod WorkedPremises
