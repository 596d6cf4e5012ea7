-- The charts that a graph names: in the expressions of its nodes, and in those of frames, in the order of the text (Z.120, clause 7.5).
use Rattle.std.specs.Prelude.{ℕ, List, [], ◌++◌}
use Rattle.msc_meaning.specs.InnerEvents.{charts_in}
use Rattle.msc_tree.specs.Graphs.{Graph, graph, Lines, no_lines, line_and, line, Node, Ends, Connect, Condition, Refer, Frames, Graphs, no_graphs, graph_and}

abbrev mutual
  pub graph_names : Graph → List (List ℕ)
  graph_names (graph starts lines) = lines_names lines

  pub lines_names : Lines → List (List ℕ)
  lines_names no_lines = []
  lines_names (line_and (line label place node next) rest) = node_names node ++ lines_names rest

  pub node_names : Node → List (List ℕ)
  node_names Ends = []
  node_names Connect = []
  node_names (Condition names) = []
  node_names (Refer expression) = charts_in expression
  node_names (Frames held) = frames_names held

  pub frames_names : Graphs → List (List ℕ)
  frames_names no_graphs = []
  frames_names (graph_and drawn rest) = graph_names drawn ++ frames_names rest
