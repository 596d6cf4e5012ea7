-- How many nodes a term has: what a recursion over terms is measured by.
use Rattle.std.specs.Prelude.{ℕ, ◌+◌, ◌<◌, ◌≤◌, ◌≡◌, false, List, [], ◌∷◌, ◌++◌, length, refl}
use Rattle.std.proofs.Common.{ap, arith}
use Rattle.chart_term.specs.NormalForms.{begun, has_gap}
use Rattle.chart_term.specs.Terms.{Tree, Nil, Event, Join, Choice, Tied, Loop, Walk, Trees, none, more, Row, ends, gap, turn, trees, Part, Gap, Turn, row_of}

abbrev mutual
  pub nodes : Tree → ℕ
  nodes Nil = 1
  nodes (Event e) = 1
  nodes (Join m xs) = nodes_all xs + 1
  nodes (Choice xs) = nodes_all xs + 1
  nodes (Tied x q) = nodes x + 1
  nodes (Loop x lo hi r) = nodes x + nodes_row r + 1
  nodes (Walk n s t c) = 1

  pub nodes_all : Trees → ℕ
  nodes_all none = 1
  nodes_all (more x xs) = nodes x + nodes_all xs + 1

  pub nodes_row : Row → ℕ
  nodes_row ends = 1
  nodes_row (gap c r) = nodes_row r + 1
  nodes_row (turn x r) = nodes x + nodes_row r + 1

-- the nodes of a list of terms
abbrev pub list_nodes : List Tree → ℕ
list_nodes [] = 1
list_nodes (x ∷ xs) = nodes x + list_nodes xs + 1

-- the nodes of a part of a row
abbrev pub part_nodes : Part → ℕ
part_nodes (Gap c) = 0
part_nodes (Turn x) = nodes x

-- the nodes of a list of parts
abbrev pub parts_nodes : List Part → ℕ
parts_nodes [] = 1
parts_nodes (p ∷ ps) = part_nodes p + parts_nodes ps + 1

pub nodes_all-trees : (xs : List Tree) → nodes_all (trees xs) ≡ list_nodes xs
nodes_all-trees [] = refl
nodes_all-trees (x ∷ xs) = ap (λ n. nodes x + n + 1) (nodes_all-trees xs)

pub nodes_row-row_of : (ps : List Part) → nodes_row (row_of ps) ≡ parts_nodes ps
nodes_row-row_of [] = refl
nodes_row-row_of (Gap c ∷ ps) = omega (arith, nodes_row-row_of ps)
nodes_row-row_of (Turn x ∷ ps) = omega (arith, nodes_row-row_of ps)

-- a list of parts in two
pub parts_nodes-append : (ps qs : List Part) → parts_nodes (ps ++ qs) + 1 ≡ parts_nodes ps + parts_nodes qs
parts_nodes-append [] qs = omega arith
parts_nodes-append (p ∷ ps) qs = omega (arith, parts_nodes-append ps qs)

-- a list that has a part has two nodes at least
pub parts_nodes-full : (ps : List Part) → 0 < length ps → 2 ≤ parts_nodes ps
parts_nodes-full [] h = absurd (omega arith)
parts_nodes-full (p ∷ ps) h = omega (arith, at_least ps)
  where
    at_least : (qs : List Part) → 1 ≤ parts_nodes qs
    at_least [] = omega arith
    at_least (q ∷ qs) = omega arith

-- turns have the nodes of their terms
pub begun-nodes : (ps : List Part) → has_gap ps ≡ false → nodes_all (trees (begun ps)) ≡ parts_nodes ps
begun-nodes [] h = refl
begun-nodes (Gap c ∷ ps) h = cc
begun-nodes (Turn x ∷ ps) h = ap (λ n. nodes x + n + 1) (begun-nodes ps h)
