mod KeptParts
mod Bare
mod LevelSets
mod ChartSets
mod LoopTurns
mod TagTies
mod NetNumbers
mod PartRules
mod WalkParts
mod Expanded
mod EventParts
mod ChartParts
mod TiedPairs
mod ExpansionTerms
mod CountedNumbers
mod ExpansionNumbers
mod RankedTrees
mod NodeOrders
mod FreshLoops
mod SoundRules
mod ExpansionEvents
mod NetParts
mod HeldTerms
mod RankedTerms
pub mod TiesWithin
mod FreeParts
pub mod GateTies
pub mod RankedChartTerms
mod WorkedExpansion
mod WorkedTerms
mod WorkedPremises
mod PlacedTerms
pub mod TermWeights
mod FewPairs
mod ShownAnywhere
mod DecomposedOnce
mod RefinedCounts
mod JoinCounts
mod LightCharts
mod HeldWeights
mod WholeCharts
mod DeeperCharts
mod NamedEvents
mod WholeNets
mod OperandTerms
