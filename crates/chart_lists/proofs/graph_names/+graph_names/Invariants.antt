use Rattle.std.proofs.Common.{◌≡◌, ◌++◌, drop, map}
use Rattle.gate_ends.specs.NameViews.{names_view}
use Rattle.msc_tree.specs.Graphs.{graphs, lines}
use Rattle.msc_tree.specs.Views.{graph_view, line_view}
use Rattle.woven_laws.specs.GraphNames.{frames_names, lines_names}
use Rattle.chart_lists.proofs.graph_names.+graph_names.Given as goal

abbrev pub invariant-add_lines-loop-line : goal.invariant-add_lines-loop-line
invariant-add_lines-loop-line l = names_view l.names.items ++ lines_names (lines (map line_view (drop l.line-index l.held))) ≡ names_view l.initial.names.items ++ lines_names (lines (map line_view l.held))

abbrev pub invariant-add_frames-loop-frame : goal.invariant-add_frames-loop-frame
invariant-add_frames-loop-frame l = names_view l.names.items ++ frames_names (graphs (map graph_view (drop l.frame-index l.frames))) ≡ names_view l.initial.names.items ++ frames_names (graphs (map graph_view l.frames))
