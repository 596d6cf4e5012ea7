use Rattle.std.proofs.Common.{◌≡◌, take, map}
use Rattle.msc_tree.specs.Graphs.{lines}
use Rattle.msc_tree.specs.Views.{line_view}
use Rattle.graph_shapes.specs.GraphShapes.{shape_lines}
use Rattle.graph_shapes.proofs.shapes.graph_shape.Given as goal

abbrev pub invariant-loop-line : goal.invariant-loop-line
invariant-loop-line l = l.lines ≡ shape_lines (lines (map line_view (take l.line-index l.line-items)))
