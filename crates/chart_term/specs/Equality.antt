-- Whether two terms are equal.
use Rattle.std.specs.Prelude.{ℕ, Bool, true, false, List, [], ◌∷◌, Option, Some, None, ◌&&◌, ◌==◌, ◌≡◌}
use Rattle.msc_base.specs.Patterns.{Mode, seq, par}
use Rattle.hmsc_graph.specs.Graphs.{Spot, Start, At, Goal, To, End, Any}
use Rattle.chart_term.specs.Terms.{TermEvent, Tree, Nil, Event, Join, Choice, Tied, Loop, Walk, Trees, none, more, Row, ends, gap, turn}

-- both are none, or both the same number
abbrev pub same_maybe : Option ℕ → Option ℕ → Bool
same_maybe None None = true
same_maybe (Some m) (Some n) = m == n
same_maybe _ _ = false

-- all four parts of the events are equal
abbrev pub same_event : TermEvent → TermEvent → Bool
same_event e f = ((e.number == f.number) && (e.at == f.at)) && (same_maybe e.also f.also && (e.label == f.label))

-- both in a row, or both side by side
abbrev pub same_mode : Mode → Mode → Bool
same_mode seq seq = true
same_mode par par = true
same_mode _ _ = false

-- both are the start, or the same node
abbrev pub same_spot : Spot → Spot → Bool
same_spot Start Start = true
same_spot (At m) (At n) = m == n
same_spot _ _ = false

-- both are the same node, an end, or anywhere
abbrev pub same_goal : Goal → Goal → Bool
same_goal (To m) (To n) = m == n
same_goal End End = true
same_goal Any Any = true
same_goal _ _ = false

-- the same numbers in the same order
abbrev pub same_numbers : List ℕ → List ℕ → Bool
same_numbers [] [] = true
same_numbers (m ∷ c) (n ∷ d) = (m == n) && same_numbers c d
same_numbers _ _ = false

-- the same pairs in the same order
abbrev pub same_pairs : List (ℕ × ℕ) → List (ℕ × ℕ) → Bool
same_pairs [] [] = true
same_pairs (p ∷ q) (r ∷ s) = ((p.0 == r.0) && (p.1 == r.1)) && same_pairs q s
same_pairs _ _ = false

-- the two terms are equal in all parts
abbrev mutual
  pub same_tree : Tree → Tree → Bool
  same_tree Nil Nil = true
  same_tree (Event e) (Event f) = same_event e f
  same_tree (Join m xs) (Join n ys) = same_mode m n && same_trees xs ys
  same_tree (Choice xs) (Choice ys) = same_trees xs ys
  same_tree (Tied x q) (Tied y r) = same_tree x y && same_pairs q r
  same_tree (Loop x lo hi r) (Loop y low high s) = (same_tree x y && (lo == low)) && (same_maybe hi high && same_row r s)
  same_tree (Walk n f t c) (Walk m g u d) = ((n == m) && same_spot f g) && (same_goal t u && same_numbers c d)
  same_tree _ _ = false

  pub same_trees : Trees → Trees → Bool
  same_trees none none = true
  same_trees (more x xs) (more y ys) = same_tree x y && same_trees xs ys
  same_trees _ _ = false

  pub same_row : Row → Row → Bool
  same_row ends ends = true
  same_row (gap c r) (gap d s) = same_numbers c d && same_row r s
  same_row (turn x r) (turn y s) = same_tree x y && same_row r s
  same_row _ _ = false

-- the test is exact
pub record SameTreeIsExact : Type 0 where
  pub sound : (x y : Tree) → same_tree x y ≡ true → x ≡ y
  pub whole : (x y : Tree) → x ≡ y → same_tree x y ≡ true
