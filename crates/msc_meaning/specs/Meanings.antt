-- What a chart means: which logs are its runs.
use Rattle.std.specs.Prelude.{◌≡◌, ◌⊎◌, ℕ, true, List, Some}
use Rattle.msc_base.specs.declared.label.Label.{Label}
use Rattle.msc_base.specs.declared.label.LabelRef.{LabelRef}
use Rattle.msc_unfolding.specs.Runs.{IsRunOf, BeginsRunOf}
use Rattle.msc_unfolding.specs.Unfoldings.{Unfolding}
use Rattle.msc_tree.specs.Graphs.{graph, Lines}
use Rattle.msc_meaning.specs.FarEnds.{no_gates}
use Rattle.msc_meaning.specs.Tables.{Table, ChartEntry, chart_at, HighLevel, refinements}
use Rattle.msc_meaning.specs.ChartUnfoldings.{OfWoven, OfWalk}

-- a finished unfolding of the chart of that name; no caller is known of its gates
pub record Finished (table : Table) (name : List ℕ) (u : Unfolding) : Type 0 where
  pub chart : ChartEntry
  pub is : chart_at table name ≡ Some chart
  pub unfolds : OfWoven table no_gates (refinements chart.decls) chart.content u

-- an unfolding under way of the chart's own graph
pub record Open (table : Table) (name : List ℕ) (u : Unfolding) : Type 0 where
  pub chart : ChartEntry
  pub is : chart_at table name ≡ Some chart
  pub starts : List LabelRef
  pub lines : Lines
  pub drawn : chart.content ≡ HighLevel (graph starts lines)
  pub walks : OfWalk table true lines starts u

-- an unfolding of the chart, finished or under way
abbrev pub Begun : Table → List ℕ → Unfolding → Type 0
Begun table name u = Finished table name u ⊎ Open table name u

-- the labels are a run of a finished unfolding
abbrev pub Conforms : Table → List ℕ → List Label → Type 0
Conforms table name labels = IsRunOf (Finished table name) labels

-- a run of an unfolding, finished or under way, begins with the labels
abbrev pub Begins : Table → List ℕ → List Label → Type 0
Begins table name labels = BeginsRunOf (Begun table name) labels
