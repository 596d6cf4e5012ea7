-- The text of a high-level chart as one list, in its order: its graph, the lines of that, and behind a line with frames those, in turn
-- (Z.120, clause 7.5).
use Rattle.std.specs.Prelude.{◌+◌, ℕ, List, [], ◌∷◌, ◌++◌}
use Rattle.msc_base.specs.declared.place.Place.{Place}
use Rattle.msc_tree.specs.Charts.{Content, Basic, HighLevel}
use Rattle.msc_tree.specs.Graphs.{Graph, graph, Lines, no_lines, line_and, Line, line, Node, Ends, Connect, Condition, Refer, Frames, Graphs, no_graphs, graph_and}

-- what stands in the text of a graph
pub data GraphPart : Type 0 where
  -- a graph or a frame, so deep in the nesting of its chart
  a_graph : ℕ → Graph → GraphPart
  -- a line at that place, with its node, so deep
  a_line : ℕ → Place → Node → GraphPart

abbrev mutual
  -- a graph is two levels of nesting
  pub graph_parts : ℕ → Graph → List GraphPart
  graph_parts depth (graph starts held) = a_graph depth (graph starts held) ∷ lines_parts (depth + 2) held

  pub lines_parts : ℕ → Lines → List GraphPart
  lines_parts depth no_lines = []
  lines_parts depth (line_and x xs) = line_parts depth x ++ lines_parts depth xs

  pub line_parts : ℕ → Line → List GraphPart
  line_parts depth (line label place node next) = a_line depth place node ∷ node_parts depth node

  -- what stands inside a node: frames are two levels more
  pub node_parts : ℕ → Node → List GraphPart
  node_parts depth Ends = []
  node_parts depth Connect = []
  node_parts depth (Condition names) = []
  node_parts depth (Refer expression) = []
  node_parts depth (Frames held) = frames_parts (depth + 2) held

  pub frames_parts : ℕ → Graphs → List GraphPart
  frames_parts depth no_graphs = []
  frames_parts depth (graph_and x xs) = graph_parts depth x ++ frames_parts depth xs

-- what a chart holds; a basic chart has no such text
abbrev pub graph_text : Content → List GraphPart
graph_text (Basic held) = []
graph_text (HighLevel drawn) = graph_parts 0 drawn
