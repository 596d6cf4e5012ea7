-- The law of the terms of charts: where a chart of a table is fit, and so is each that it names, its term means the chart.
use Rattle.std.specs.Prelude.{◌≡◌, ℕ, List, ◌∷◌, Some, length}
use Rattle.msc_base.specs.declared.label.LabelRef.{LabelRef}
use Rattle.msc_base.specs.Orders.{Once}
use Rattle.hmsc_graph.specs.Graphs.{Any}
use Rattle.chart_term.specs.Tables.{Tables}
use Rattle.chart_term.specs.Terms.{Tree}
use Rattle.term_laws.specs.FullSoundness.{AreSoundNets}
use Rattle.term_meaning.specs.Meanings.{Means}
use Rattle.term_tables.specs.NetValues.{NetsValue}
use Rattle.msc_tree.specs.Graphs.{graph, Lines}
use Rattle.msc_meaning.specs.Bodies.{WovenItems}
use Rattle.msc_meaning.specs.FarEnds.{no_gates}
use Rattle.msc_meaning.specs.InnerEvents.{GateEnd}
use Rattle.msc_meaning.specs.Meanings.{Finished, Begun}
use Rattle.msc_meaning.specs.Tables.{Table, ChartEntry, chart_at, HighLevel}
use Rattle.graph_shapes.specs.GraphShapes.{shape_of}
use Rattle.expansion_terms.specs.MadeTerms.{net_of_shape, newest_walk}
use Rattle.expanded_terms.specs.ExpandedTerms.{charts_to, lines_terms}
use Rattle.expanded_terms.specs.FitBodies.{AreFitLines, IsFitTo}
use Rattle.expanded_terms.specs.GraphWalks.{IsGraphWalk, IsWholeNet}
use Rattle.expanded_terms.specs.NamedEvents.{IsNameable, named_leaves}

-- no chart of that name is a high-level chart
abbrev pub IsBasicChart : Table → List ℕ → Type 0
IsBasicChart table name = (entry : ChartEntry) (starts : List LabelRef) (lines : Lines) → chart_at table name ≡ Some entry → entry.content ≡ HighLevel (graph starts lines) → ⊥

-- the lines of the judged graph are fit, and its net is the newest one
pub record IsJudgedGraph (v : NetsValue) (names : List (List ℕ)) (walk : ℕ → Tree) (table : Table) (ends_of : WovenItems → List GateEnd) (depth : ℕ) (starts : List LabelRef) (lines : Lines) : Type 0 where
  pub fit : AreFitLines table ends_of (named_leaves names v.labels walk) (IsNameable names v.labels) (λ m g nodes. IsGraphWalk v.tables g nodes (walk m)) (charts_to (named_leaves names v.labels walk) ends_of table depth)
      (IsFitTo table ends_of (named_leaves names v.labels walk) (IsNameable names v.labels) (λ m g nodes. IsGraphWalk v.tables g nodes (walk m)) depth) 1 lines
  pub whole : IsWholeNet (shape_of (graph starts lines))
  pub older : Tables
  pub newest : v.tables ≡ record { net = net_of_shape (shape_of (graph starts lines)); nodes = lines_terms (charts_to (named_leaves names v.labels walk) ends_of table depth) (named_leaves names v.labels walk) ends_of 1 lines } ∷ older

-- the patterns of the term are exactly the chart's finished unfoldings, and it has no others; those of a high-level chart that is judged are
-- the walks through its graph, finished or under way
pub record ExpandedTermsMean : Type 0 where
  pub means : (v : NetsValue) (names : List (List ℕ)) (walk : ℕ → Tree) (table : Table) (ends_of : WovenItems → List GateEnd) (depth : ℕ) (name : List ℕ) → Once names → Once v.labels → AreSoundNets (length v.labels) v.tables
      → IsFitTo table ends_of (named_leaves names v.labels walk) (IsNameable names v.labels) (λ m g nodes. IsGraphWalk v.tables g nodes (walk m)) depth name no_gates 0 → IsBasicChart table name
      → Means v names ((charts_to (named_leaves names v.labels walk) ends_of table depth).term name no_gates 0) (Finished table name) (Begun table name)
  pub judged : (v : NetsValue) (names : List (List ℕ)) (walk : ℕ → Tree) (table : Table) (ends_of : WovenItems → List GateEnd) (depth : ℕ) (name : List ℕ) (entry : ChartEntry) (starts : List LabelRef) (lines : Lines) → Once names → Once v.labels
      → AreSoundNets (length v.labels) v.tables → chart_at table name ≡ Some entry → entry.content ≡ HighLevel (graph starts lines) → IsJudgedGraph v names walk table ends_of depth starts lines
      → Means v names (newest_walk Any v.tables) (Finished table name) (Begun table name)
