-- The tokens of a graph.
use Rattle.std.specs.Prelude.{Bool, true, false, List, [], ◌∷◌, ◌++◌, codes, if◌then◌else◌}
use Rattle.msc_base.specs.declared.label.LabelRef.{LabelRef}
use Rattle.msc_tree.specs.Graphs.{Graph, Lines, Line, Node, Graphs, graph, no_lines, line_and, line, Ends, Connect, Condition, Refer, Frames, no_graphs, graph_and}
use Rattle.msc_print.specs.Words.{Words, separated_words, name_words, end_words}
use Rattle.msc_print.specs.ExpressionWords.{expression_words, enclosed}

abbrev pub label_word : LabelRef → Words
label_word l = l.name ∷ []

-- name { "alt" name }
abbrev pub label_words : List LabelRef → Words
label_words = separated_words (codes "alt") label_word

abbrev pub is_end : Node → Bool
is_end Ends = true
is_end _ = false

-- what stands behind a node: "seq" "(" name { "alt" name } ")" end, and behind the end of walks an end alone
abbrev pub next_words : Node → List LabelRef → Words
next_words node labels = if is_end node then end_words else (codes "seq" ∷ (enclosed (label_words labels) ++ end_words))

abbrev mutual
  -- "expr" name { "alt" name } end { line }
  pub graph_words : Graph → Words
  graph_words (graph starts lines) = codes "expr" ∷ (label_words starts ++ (end_words ++ lines_words lines))

  pub lines_words : Lines → Words
  lines_words no_lines = []
  lines_words (line_and held others) = line_words held ++ lines_words others

  -- name ":" node and what stands behind it
  pub line_words : Line → Words
  line_words (line label place node labels) = label ∷ codes ":" ∷ (node_words node ++ next_words node labels)

  pub node_words : Node → Words
  node_words Ends = codes "end" ∷ []
  node_words Connect = codes "connect" ∷ []
  node_words (Condition names) = codes "condition" ∷ name_words names
  node_words (Refer expression) = enclosed (expression_words expression)
  node_words (Frames frames) = frame_words frames

  -- frames, each up to "endexpr", with "par" between them
  pub frame_words : Graphs → Words
  frame_words no_graphs = []
  frame_words (graph_and frame frames) = graph_words frame ++ (codes "endexpr" ∷ other_frame_words frames)

  pub other_frame_words : Graphs → Words
  other_frame_words no_graphs = []
  other_frame_words (graph_and frame frames) = codes "par" ∷ (graph_words frame ++ (codes "endexpr" ∷ other_frame_words frames))
