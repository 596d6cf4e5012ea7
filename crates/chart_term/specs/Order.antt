-- The order of terms: by a code of their event numbers, then by constructor, as the table of weights has them, then by their parts.
use Rattle.std.specs.Cmp.{IsTotalOrder}
use Rattle.std.specs.Ordering.{nat_cmp, ordering_then}
use Rattle.std.specs.Prelude.{ℕ, ◌≡◌}
use Rattle.std.specs.declared.cmp.Ordering.{Ordering}
use Rattle.std.specs.declared.cmp.Ordering.TheVariants.{Less, Equal, Greater}
use Rattle.bit_sets.specs.Blocks.{set_cmp}
use Rattle.msc_base.specs.Patterns.{seq, par}
pub use Rattle.hmsc_graph.specs.Spots.{spot_cmp, goal_cmp}
pub use Rattle.term_facts.specs.NodeFacts.{numbers_code}
pub use Rattle.term_facts.specs.PlainOrder.{maybe_cmp, pair_cmp, pairs_cmp}
use Rattle.chart_term.specs.NormalForms.{numbers}
use Rattle.chart_term.specs.Terms.{TermEvent, Tree, Nil, Event, Join, Choice, Tied, Loop, Walk, Trees, none, more, Row, ends, gap, turn, Part, Gap, Turn}

-- the constructor's place in the table of weights
abbrev pub rank : Tree → ℕ
rank Nil = 0
rank (Event e) = 1
rank (Join seq xs) = 2
rank (Join par xs) = 3
rank (Choice xs) = 4
rank (Tied x q) = 5
rank (Loop x lo hi r) = 6
rank (Walk n s t c) = 7

-- by number, instances and label
abbrev pub event_cmp : TermEvent → TermEvent → Ordering
event_cmp e f = ordering_then (nat_cmp e.number f.number) (ordering_then (nat_cmp e.at f.at) (ordering_then (maybe_cmp e.also f.also) (nat_cmp e.label f.label)))

-- by the codes of their event numbers
abbrev pub code_cmp : Tree → Tree → Ordering
code_cmp x y = nat_cmp (numbers_code (numbers x)) (numbers_code (numbers y))

-- by constructor, then by the parts in their order, each by its code first; the pairs of a tie come before the term below it
abbrev mutual
  pub shape_cmp : Tree → Tree → Ordering
  shape_cmp Nil Nil = Equal
  shape_cmp (Event e) (Event f) = event_cmp e f
  shape_cmp (Join seq xs) (Join seq ys) = trees_cmp xs ys
  shape_cmp (Join par xs) (Join par ys) = trees_cmp xs ys
  shape_cmp (Choice xs) (Choice ys) = trees_cmp xs ys
  shape_cmp (Tied x q) (Tied y r) = ordering_then (pairs_cmp q r) (ordering_then (code_cmp x y) (shape_cmp x y))
  shape_cmp (Loop x lo hi r) (Loop y low high s) = ordering_then (ordering_then (code_cmp x y) (shape_cmp x y)) (ordering_then (nat_cmp lo low) (ordering_then (maybe_cmp hi high) (row_cmp r s)))
  shape_cmp (Walk n s t c) (Walk m u v d) = ordering_then (nat_cmp n m) (ordering_then (spot_cmp s u) (ordering_then (goal_cmp t v) (set_cmp c d)))
  shape_cmp x y = nat_cmp (rank x) (rank y)

  pub trees_cmp : Trees → Trees → Ordering
  trees_cmp none none = Equal
  trees_cmp none (more y ys) = Less
  trees_cmp (more x xs) none = Greater
  trees_cmp (more x xs) (more y ys) = ordering_then (ordering_then (code_cmp x y) (shape_cmp x y)) (trees_cmp xs ys)

  pub row_cmp : Row → Row → Ordering
  row_cmp ends ends = Equal
  row_cmp ends (gap d s) = Less
  row_cmp ends (turn y s) = Less
  row_cmp (gap c r) ends = Greater
  row_cmp (gap c r) (gap d s) = ordering_then (set_cmp c d) (row_cmp r s)
  row_cmp (gap c r) (turn y s) = Less
  row_cmp (turn x r) ends = Greater
  row_cmp (turn x r) (gap d s) = Greater
  row_cmp (turn x r) (turn y s) = ordering_then (ordering_then (code_cmp x y) (shape_cmp x y)) (row_cmp r s)

-- by code, then by constructor and parts
abbrev pub tree_cmp : Tree → Tree → Ordering
tree_cmp x y = ordering_then (code_cmp x y) (shape_cmp x y)

-- gaps first, by their blocks; then begun turns
abbrev pub part_cmp : Part → Part → Ordering
part_cmp (Gap c) (Gap d) = set_cmp c d
part_cmp (Gap c) (Turn y) = Less
part_cmp (Turn x) (Gap d) = Greater
part_cmp (Turn x) (Turn y) = tree_cmp x y

-- terms are ordered, and only equal terms compare as equal
pub record TermsAreOrdered : Type 0 where
  pub total : IsTotalOrder tree_cmp
  pub equal : (x y : Tree) → tree_cmp x y ≡ Equal → x ≡ y
  pub itself : (x : Tree) → tree_cmp x x ≡ Equal
