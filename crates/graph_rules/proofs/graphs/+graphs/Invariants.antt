use Rattle.std.proofs.Common.{◌≡◌, ◌++◌, drop, map}
use Rattle.graph_rules.specs.GraphViews.{graphs_view}
use Rattle.graph_shapes.specs.GraphLists.{frames_in, graphs_among}
use Rattle.msc_tree.specs.Graphs.{graphs, lines}
use Rattle.msc_tree.specs.Views.{graph_view, line_view}
use Rattle.graph_rules.proofs.graphs.+graphs.Given as goal

abbrev pub invariant-add_lines-loop-line : goal.invariant-add_lines-loop-line
invariant-add_lines-loop-line l =
    graphs_view l.list.items ++ frames_in (lines (map line_view (drop l.line-index l.held))) ≡ graphs_view l.initial.list.items ++ frames_in (lines (map line_view l.held))

abbrev pub invariant-add_graphs-loop-frame : goal.invariant-add_graphs-loop-frame
invariant-add_graphs-loop-frame l =
    graphs_view l.list.items ++ graphs_among (graphs (map graph_view (drop l.frame-index l.frames))) ≡ graphs_view l.initial.list.items ++ graphs_among (graphs (map graph_view l.frames))
