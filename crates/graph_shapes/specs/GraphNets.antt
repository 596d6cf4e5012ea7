-- The nets of graphs as they are written.
use Rattle.std.specs.Prelude.{List}
use Rattle.msc_base.specs.declared.label.LabelRef.{LabelRef}
use Rattle.msc_base.specs.declared.place.Place.{Place}
use Rattle.hmsc_graph.specs.Graphs.{Net}
use Rattle.hmsc_graph.specs.Nets.{IsNet}
use Rattle.hmsc_graph.specs.Shapes.{IsGraphOf, IsFaulty}
use Rattle.msc_tree.specs.Graphs.{Graph, graph, Lines}
use Rattle.graph_shapes.specs.GraphShapes.{shape_of}

-- the net is that of the graph, in which no label is unknown or stands twice
pub record IsNetOf (starts : List LabelRef) (lines : Lines) (g : Net) : Type 0 where
  pub drawn : IsGraphOf (shape_of (graph starts lines)) g
  pub faultless : (place : Place) → IsFaulty (shape_of (graph starts lines)) place → ⊥
  pub net : IsNet g

abbrev pub IsNetOfGraph : Graph → Net → Type 0
IsNetOfGraph (graph starts lines) g = IsNetOf starts lines g

abbrev pub lines_of : Graph → Lines
lines_of (graph starts lines) = lines
