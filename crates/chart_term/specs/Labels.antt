-- The labels of a term's events, by number.
use Rattle.std.specs.Prelude.{ℕ, List, [], ◌∷◌, ◌++◌}
use Rattle.chart_term.specs.Terms.{Tree, Nil, Event, Join, Choice, Tied, Loop, Walk, Trees, none, more, Row, ends, gap, turn}

-- the labels of the events of a term, of its loop operands and begun turns, but not of nets
abbrev mutual
  pub labels : Tree → List ℕ
  labels Nil = []
  labels (Event e) = e.label ∷ []
  labels (Join m xs) = labels_all xs
  labels (Choice xs) = labels_all xs
  labels (Tied x q) = labels x
  labels (Loop x lo hi r) = labels x ++ labels_row r
  labels (Walk n s t c) = []

  pub labels_all : Trees → List ℕ
  labels_all none = []
  labels_all (more x xs) = labels x ++ labels_all xs

  pub labels_row : Row → List ℕ
  labels_row ends = []
  labels_row (gap c r) = labels_row r
  labels_row (turn x r) = labels x ++ labels_row r
