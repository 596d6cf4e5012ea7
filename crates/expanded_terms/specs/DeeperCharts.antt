-- What is counted and shown of a chart that is whole so deep is the same at each greater depth: so it can be worked out once for each chart.
use Rattle.std.specs.Prelude.{◌≡◌, ◌≤◌, ℕ, List}
use Rattle.msc_meaning.specs.Bodies.{WovenItems}
use Rattle.msc_meaning.specs.InnerEvents.{GateEnd}
use Rattle.msc_meaning.specs.Tables.{Table}
use Rattle.expanded_terms.specs.ExpandedTerms.{Leaves, Charts, charts_to}
use Rattle.expanded_terms.specs.WholeCharts.{IsWholeTo}

pub record AreSameOf (charts others : Charts) (name : List ℕ) : Type 0 where
  pub count : charts.count name ≡ others.count name
  pub shown : (n : ℕ) → charts.shown name n ≡ others.shown name n

pub record DeeperIsSame : Type 0 where
  pub same : (leaves : Leaves) (ends_of : WovenItems → List GateEnd) (table : Table) (k j : ℕ) (name : List ℕ) → k ≤ j → IsWholeTo table ends_of k name → AreSameOf (charts_to leaves ends_of table k) (charts_to leaves ends_of table j) name
