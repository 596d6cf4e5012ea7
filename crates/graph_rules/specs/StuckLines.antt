-- Serves private contracts alone.
-- The lines of a graph by their numbers, and those from which no walk comes to an end, as the code finds them.
use Rattle.std.specs.Prelude.{◌≡◌, ◌<◌, ℕ, List, Some, map, slice_get}
use Rattle.msc_base.specs.Lists.{IsIn}
use Rattle.msc_base.specs.declared.place.Place.{Place}
use Rattle.hmsc_graph.specs.Graphs.{Net}
use Rattle.hmsc_graph.specs.Shapes.{IsGraphOf}
use Rattle.hmsc_graph.specs.Walks.{IsEndless}
use Rattle.hmsc_graph.specs.declared.shape.Shape.{Shape}
use Rattle.hmsc_graph.specs.declared.shape.ShapeLine.{ShapeLine}
use Rattle.msc_tree.specs.declared.graph.RawLine.{RawLine}
use Rattle.msc_tree.specs.Views.{line_view}
use Rattle.graph_shapes.specs.GraphShapes.{shape_line}

abbrev pub line_shape : RawLine → ShapeLine
line_shape l = shape_line (line_view l)

-- the line of that number stands there
pub record HasLineAt (lines : List RawLine) (number : ℕ) (place : Place) : Type 0 where
  pub line : RawLine
  pub at : slice_get lines number ≡ Some line
  pub here : (line_shape line).place ≡ place

-- in a net of the shape the node is endless
pub record IsStuck (shape : Shape) (node : ℕ) : Type 0 where
  pub net : Net
  pub drawn : IsGraphOf shape net
  pub endless : IsEndless net node

-- one of these lines, before that number, is one of the nodes, and its label stands there
pub record HasStuckLine (lines : List RawLine) (before : ℕ) (nodes : List ℕ) (place : Place) : Type 0 where
  pub node : ℕ
  pub low : node < before
  pub among : IsIn node nodes
  pub line : HasLineAt lines node place
