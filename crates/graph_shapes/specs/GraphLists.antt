-- The graphs that stand in a graph: itself, and the frames of its nodes, at any depth.
use Rattle.std.specs.Prelude.{List, [], ◌∷◌, ◌++◌}
use Rattle.msc_tree.specs.Graphs.{Graph, graph, Lines, no_lines, line_and, line, Node, Ends, Connect, Condition, Refer, Frames, Graphs, no_graphs, graph_and}

abbrev mutual
  -- the graph, then its frames with those in them, in the order of the text
  pub graphs_in : Graph → List Graph
  graphs_in (graph starts lines) = graph starts lines ∷ frames_in lines

  -- the frames of the nodes of these lines, with those in them
  pub frames_in : Lines → List Graph
  frames_in no_lines = []
  frames_in (line_and (line label place node next) rest) = frames_of node ++ frames_in rest

  -- the frames of the node, with those in them
  pub frames_of : Node → List Graph
  frames_of Ends = []
  frames_of Connect = []
  frames_of (Condition names) = []
  frames_of (Refer expression) = []
  frames_of (Frames held) = graphs_among held

  -- each of these graphs, with those in it
  pub graphs_among : Graphs → List Graph
  graphs_among no_graphs = []
  graphs_among (graph_and drawn rest) = graphs_in drawn ++ graphs_among rest
