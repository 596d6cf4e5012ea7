use Rattle.std.proofs.Common.{◌≡◌, ◌++◌, drop, map}
use Rattle.graph_text.specs.GraphPartViews.{parts_view}
use Rattle.graph_text.specs.GraphTexts.{frames_parts, lines_parts}
use Rattle.msc_tree.specs.Graphs.{graphs, lines}
use Rattle.msc_tree.specs.Views.{graph_view, line_view}
use Rattle.graph_text.proofs.walk.+parts.Given as goal

abbrev pub invariant-lines-loop-held : goal.invariant-lines-loop-held
invariant-lines-loop-held l =
    parts_view l.parts.items ++ lines_parts l.depth (lines (map line_view (drop l.held-index l.list)))
    ≡ parts_view l.initial.parts.items ++ lines_parts l.depth (lines (map line_view l.list))

abbrev pub invariant-frames-loop-held : goal.invariant-frames-loop-held
invariant-frames-loop-held l =
    parts_view l.parts.items ++ frames_parts l.depth (graphs (map graph_view (drop l.held-index l.list)))
    ≡ parts_view l.initial.parts.items ++ frames_parts l.depth (graphs (map graph_view l.list))
