use Rattle.std.proofs.Common.{◌≡◌, [], map, length, ℕ, ◌+◌, ◌-◌, ◌*◌}
use Rattle.msc_tree.specs.Views.{graph_view, line_view}
use Rattle.token_grammar.specs.Languages.{names}
use Rattle.token_grammar.specs.PartReaders.{more_at}
use Rattle.msc_expression.specs.GraphReaders.{graph_line_at, lines_at, more_frames_at}
use Rattle.msc_expression.proofs.graphs.+graphs.Given as goal

abbrev pub decreases-frame : goal.decreases-frame
decreases-frame l = l.levels * 20

abbrev pub decreases-next_frame : goal.decreases-next_frame
decreases-next_frame l = l.levels * 20 + 1

abbrev pub decreases-more_frames : goal.decreases-more_frames
decreases-more_frames l = l.levels * 20 + 2

abbrev pub decreases-frames : goal.decreases-frames
decreases-frames l = l.levels * 20 + 3

abbrev pub decreases-node : goal.decreases-node
decreases-node l = l.levels * 20 + 4

abbrev pub decreases-line_rest : goal.decreases-line_rest
decreases-line_rest l = l.levels * 20 + 5

abbrev pub decreases-labelled_line : goal.decreases-labelled_line
decreases-labelled_line l = l.levels * 20 + 6

abbrev pub decreases-line : goal.decreases-line
decreases-line l = l.levels * 20 + 7

abbrev pub decreases-lines : goal.decreases-lines
decreases-lines l = l.levels * 20 + 8

abbrev pub decreases-graph_rest : goal.decreases-graph_rest
decreases-graph_rest l = l.levels * 20 + 9

abbrev pub decreases-frame_rest : goal.decreases-frame_rest
decreases-frame_rest l = l.levels * 20 + 10

abbrev pub invariant-lines-loop-k : goal.invariant-lines-loop-k
invariant-lines-loop-k l = more_at names (graph_line_at l.levels) (map line_view l.lines.items) (l._k-end - l._k) l.rest ≡ lines_at (graph_line_at l.levels) l.fn.tokens

abbrev pub invariant-more_frames-loop-k : goal.invariant-more_frames-loop-k
invariant-more_frames-loop-k l =
    more_frames_at l.levels (map graph_view l.frames.items) (l._k-end - l._k) l.rest ≡ more_frames_at l.levels (map graph_view l.fn.prefix.items) (length l.fn.tokens) l.fn.tokens
