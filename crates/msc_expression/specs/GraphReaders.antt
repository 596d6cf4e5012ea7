-- Readers of the productions of a graph.
use Rattle.std.specs.Prelude.{ℕ, zero, suc, List, [], length, Some, None, codes}
use Rattle.msc_base.specs.declared.label.LabelRef.{LabelRef}
use Rattle.msc_tokens.specs.declared.token.Token.{Token}
use Rattle.msc_tree.specs.Expressions.{Expression}
use Rattle.msc_tree.specs.Graphs.{Graph, Line, Node, Ends, Connect, Condition, Refer, Frames, graph, lines, graphs}
use Rattle.token_grammar.specs.Languages.{Read, just, names, seq_at, either_at, map_at, each_at, opens_at, behind_at}
use Rattle.token_grammar.specs.PartReaders.{mark_at, ending_at, name_list_at, placed_name_at, more_at, separated_at}
use Rattle.msc_expression.specs.ExpressionReaders.{expression_at}
use Rattle.msc_expression.specs.Levels.{within_at}
use Rattle.msc_expression.specs.GraphGrammar.{label_of, line_of}

abbrev pub label_at : List Token → Read LabelRef
label_at = map_at label_of placed_name_at

abbrev pub next_label_at : List Token → Read LabelRef
next_label_at = behind_at (just (codes "alt")) label_at

-- at most so many others, behind those that there are
abbrev pub more_labels_at : List LabelRef → ℕ → List Token → Read (List LabelRef)
more_labels_at = more_at (just (codes "alt")) next_label_at

abbrev pub labels_at : List Token → Read (List LabelRef)
labels_at = separated_at (codes "alt") label_at

-- the lines, up to a token that begins none
abbrev pub lines_at : (List Token → Read Line) → List Token → Read (List Line)
lines_at p ts = each_at names p (length ts) ts

-- behind `expr`, up to a token that begins no line
abbrev pub graph_rest_at : (List Token → Read Line) → List Token → Read Graph
graph_rest_at p = map_at (λ x. graph x.0 (lines x.1.1)) (seq_at labels_at (seq_at ending_at (lines_at p)))

abbrev pub frame_rest_at : (List Token → Read Line) → List Token → Read Graph
frame_rest_at p = map_at (λ x. x.0) (seq_at (graph_rest_at p) (mark_at (codes "endexpr")))

abbrev pub reference_node_at : (List Token → Read Expression) → List Token → Read Node
reference_node_at x = map_at (λ p. Refer p.0) (behind_at (just (codes "(")) (seq_at x (mark_at (codes ")"))))

abbrev pub condition_at : List Token → Read Node
condition_at = map_at Condition (behind_at (just (codes "condition")) name_list_at)

abbrev pub frames_at : (List Token → Read Graph) → List Token → Read Node
frames_at f = map_at (λ fs. Frames (graphs fs)) (separated_at (codes "par") f)

abbrev pub node_at : (List Token → Read Expression) → (List Token → Read Graph) → List Token → Read Node
node_at x f = either_at (just (codes "(")) (reference_node_at x) (either_at (just (codes "connect")) (map_at (λ t. Connect) (mark_at (codes "connect")))
    (either_at (just (codes "condition")) condition_at (frames_at f)))

abbrev pub next_at : List Token → Read (List LabelRef)
next_at = behind_at (just (codes "seq")) (behind_at (just (codes "(")) (map_at (λ p. p.0) (seq_at labels_at (seq_at (mark_at (codes ")")) ending_at))))

abbrev pub line_rest_at : (List Token → Read Expression) → (List Token → Read Graph) → List Token → Read (Node × List LabelRef)
line_rest_at x f = either_at (just (codes "end")) (map_at (λ e. (Ends, [])) (behind_at (just (codes "end")) ending_at)) (seq_at (node_at x f) next_at)

abbrev pub line_in_at : (List Token → Read Expression) → (List Token → Read Graph) → List Token → Read Line
line_in_at x f = map_at line_of (seq_at label_at (behind_at (just (codes ":")) (line_rest_at x f)))

unfoldable pub graph_line_at : ℕ → List Token → Read Line
graph_line_at zero = line_in_at (expression_at zero) (opens_at (just (codes "expr")) None)
graph_line_at (suc n) = line_in_at (expression_at (suc n)) (opens_at (just (codes "expr")) (Some (frame_rest_at (graph_line_at n))))

-- a frame, where so many levels may be opened
abbrev pub frame_at : ℕ → List Token → Read Graph
frame_at n = within_at (just (codes "expr")) (λ m. frame_rest_at (graph_line_at m)) n

-- a frame behind `par`
abbrev pub next_frame_at : ℕ → List Token → Read Graph
next_frame_at n = behind_at (just (codes "par")) (frame_at n)

-- at most so many others, behind those that there are
abbrev pub more_frames_at : ℕ → List Graph → ℕ → List Token → Read (List Graph)
more_frames_at n = more_at (just (codes "par")) (next_frame_at n)

-- the graph of a chart, up to a token that begins no line
abbrev pub chart_graph_at : ℕ → List Token → Read Graph
chart_graph_at n = behind_at (just (codes "expr")) (graph_rest_at (graph_line_at n))
