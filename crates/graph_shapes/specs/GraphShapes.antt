-- Graphs as they are written, without the contents of their nodes: what hmsc_graph makes nets of.
use Rattle.std.specs.Prelude.{Bool, true, false, List, [], ◌∷◌}
use Rattle.hmsc_graph.specs.declared.shape.Shape.{Shape}
use Rattle.hmsc_graph.specs.declared.shape.ShapeLine.{ShapeLine}
use Rattle.msc_tree.specs.Graphs.{Graph, graph, Lines, no_lines, line_and, Line, line, Node, Ends, Connect, Condition, Refer, Frames}

-- whether walks end at the node
abbrev pub is_end : Node → Bool
is_end Ends = true
is_end Connect = false
is_end (Condition names) = false
is_end (Refer expression) = false
is_end (Frames held) = false

-- a line without the content of its node
abbrev pub shape_line : Line → ShapeLine
shape_line (line label place node next) = record { label = label; place = place; ends = is_end node; next = next }

abbrev pub shape_lines : Lines → List ShapeLine
shape_lines no_lines = []
shape_lines (line_and x xs) = shape_line x ∷ shape_lines xs

-- the graph without the contents of its nodes
abbrev pub shape_of : Graph → Shape
shape_of (graph starts lines) = record { starts = starts; lines = shape_lines lines }
