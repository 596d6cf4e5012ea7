-- The walks of an expansion are through the graphs of the charts that it names.
use Rattle.std.specs.Prelude.{◌≡◌, ℕ, zero, suc, List, [], length}
use Rattle.msc_base.specs.Orders.{Among}
use Rattle.hmsc_graph.specs.declared.shape.Shape.{Shape}
use Rattle.msc_tree.specs.Graphs.{Graph, Lines}
use Rattle.graph_shapes.specs.GraphLists.{frames_in, graphs_in}
use Rattle.graph_shapes.specs.GraphShapes.{shape_lines, shape_of}
use Rattle.msc_meaning.specs.Bodies.{WovenItems}
use Rattle.msc_meaning.specs.FarEnds.{GateMap}
use Rattle.msc_meaning.specs.InnerEvents.{GateEnd}
use Rattle.msc_meaning.specs.Tables.{Table, Woven, Basic, HighLevel}
use Rattle.expansion_tree.specs.Expansions.{map_events, map_all_events}
use Rattle.expansion_tree.specs.Numbered.{Expansions}
use Rattle.expansion_tree.specs.Walks.{EachWalk, EachWalkIn}
use Rattle.expansion_tree.specs.declared.tree.ExpandedEvent.{ExpandedEvent}
use Rattle.expanded_charts.specs.Expanding.{NumberedEvent, expand_charts, expand_lines}
use Rattle.expansion_terms.specs.MadeTerms.{parts_count}
use Rattle.expanded_terms.specs.GraphWalks.{IsWholeNet, LeadsToEnd}
use Rattle.node_ranks.specs.NamedCharts.{HasEntry, LinesNameOnly}
use Rattle.made_terms.specs.MadeTerms.{AreEndsEmpty}

-- ---- graphs of charts

-- the graph of a chart, with its frames
abbrev pub woven_graphs : Woven → List Graph
woven_graphs (Basic held) = []
woven_graphs (HighLevel drawn) = graphs_in drawn

-- each label is that of one line, and a walk leads from the start to an end
pub record IsEndingShape (shape : Shape) : Type 0 where
  pub whole : IsWholeNet shape
  pub leads : LeadsToEnd shape

abbrev pub AreEnding : List Graph → Type 0
AreEnding gs = (g : Graph) → Among g gs → IsEndingShape (shape_of g)

-- the chart of that name is there, its graphs are ending, and it names only such charts
pub record HasEndingEntry (table : Table) (P : List ℕ → Type 0) (name : List ℕ) : Type 0 where
  pub has : HasEntry table P name
  pub graphs : AreEnding (woven_graphs has.entry.content)

-- they stand in each other less than so deep
abbrev pub IsEndingTo : Table → ℕ → List ℕ → Type 0
IsEndingTo table zero name = ⊥
IsEndingTo table (suc depth) name = HasEndingEntry table (IsEndingTo table depth) name

-- ---- walks

-- there is a part for each line, and in those of end lines nothing happens
pub record AreOfLines (lines : Lines) (xs : Expansions) : Type 0 where
  pub each : parts_count xs ≡ length (shape_lines lines)
  pub ends : AreEndsEmpty (shape_lines lines) xs

-- the shape is such a one, and there is a part for each of its lines
pub record IsDrawnGraph (shape : Shape) (xs : Expansions) : Type 0 where
  pub ending : IsEndingShape shape
  pub each : parts_count xs ≡ length shape.lines
  pub ends : AreEndsEmpty shape.lines xs

-- each walk of a chart's expansion, under any numbers of its instances and labels, is through such a graph
pub record WalksAreDrawn : Type 0 where
  pub walks : (f : NumberedEvent → ExpandedEvent) (ends_of : WovenItems → List GateEnd) (table : Table) (depth : ℕ) (name : List ℕ) (gates : GateMap) (n : ℕ) (has : HasEntry table (IsEndingTo table depth) name) → AreEnding (woven_graphs has.entry.content)
      → EachWalk (λ m s xs. IsDrawnGraph s xs) (map_events f (expand_charts ends_of table (suc depth) name gates n).part)
  -- and so is each in the lines of a graph; there is a part for each of these
  pub lines : (f : NumberedEvent → ExpandedEvent) (ends_of : WovenItems → List GateEnd) (table : Table) (depth : ℕ) (n : ℕ) (held : Lines) → LinesNameOnly (IsEndingTo table depth) held → AreEnding (frames_in held)
      → EachWalkIn (λ m s xs. IsDrawnGraph s xs) (map_all_events f (expand_lines (expand_charts ends_of table depth) ends_of n held).parts)
  pub parts : (f : NumberedEvent → ExpandedEvent) (ends_of : WovenItems → List GateEnd) (table : Table) (depth : ℕ) (n : ℕ) (held : Lines) → AreOfLines held (map_all_events f (expand_lines (expand_charts ends_of table depth) ends_of n held).parts)
