-- The graph of a high-level chart, as a plain tree (Z.120, clause 7.5).
use Rattle.std.specs.Prelude.{ℕ, List, [], ◌∷◌}
use Rattle.msc_base.specs.declared.label.LabelRef.{LabelRef}
use Rattle.msc_base.specs.declared.place.Place.{Place}
use Rattle.msc_tree.specs.Expressions.{Expression}

mutual
  -- the start labels, and the lines
  pub data Graph : Type 0 where
    graph : List LabelRef → Lines → Graph

  pub data Lines : Type 0 where
    no_lines : Lines
    line_and : Line → Lines → Lines

  -- the label of a line with its place, its node, and the labels of the next nodes
  pub data Line : Type 0 where
    line : List ℕ → Place → Node → List LabelRef → Line

  pub data Node : Type 0 where
    -- the walk ends here
    Ends : Node
    Connect : Node
    Condition : List (List ℕ) → Node
    Refer : Expression → Node
    -- graphs side by side
    Frames : Graphs → Node

  pub data Graphs : Type 0 where
    no_graphs : Graphs
    graph_and : Graph → Graphs → Graphs

abbrev pub lines : List Line → Lines
lines [] = no_lines
lines (x ∷ xs) = line_and x (lines xs)

abbrev pub graphs : List Graph → Graphs
graphs [] = no_graphs
graphs (x ∷ xs) = graph_and x (graphs xs)

abbrev pub line_list : Lines → List Line
line_list no_lines = []
line_list (line_and x xs) = x ∷ line_list xs
