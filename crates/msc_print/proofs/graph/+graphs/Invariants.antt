use Rattle.std.proofs.Common.{◌≡◌, drop, map}
use Rattle.msc_tree.specs.Graphs.{graphs, lines}
use Rattle.msc_tree.specs.Views.{graph_view, line_view}
use Rattle.msc_print.specs.GraphWords.{frame_words, lines_words}
use Rattle.msc_print.specs.Pages.{put_all}
use Rattle.msc_print.proofs.Putting.{frames_left}
use Rattle.msc_print.proofs.graph.+graphs.Given as goal

-- what is still to be written, behind what was, is the whole
abbrev pub invariant-frames-loop-frame : goal.invariant-frames-loop-frame
invariant-frames-loop-frame l =
    put_all l.page (frames_left l.first (graphs (map graph_view (drop l.frame-index l.list)))) ≡ put_all l.initial.page (frame_words (graphs (map graph_view l.list)))

abbrev pub invariant-lines-loop-held : goal.invariant-lines-loop-held
invariant-lines-loop-held l = put_all l.page (lines_words (lines (map line_view (drop l.held-index l.lines)))) ≡ put_all l.initial.page (lines_words (lines (map line_view l.lines)))
