-- The facts that a node of a term stores beside its parts.
use Rattle.std.specs.List.{list_any}
use Rattle.std.specs.Prelude.{ℕ, Bool, true, false, List, [], ◌++◌, ◌||◌, ◌&&◌, not}
use Rattle.bit_sets.specs.Blocks.{BlockValue}
pub use Rattle.term_facts.specs.NodeFacts.{span_of, lies_in, wider, AreFacts}
use Rattle.term_facts.specs.declared.facts.Facts.{Facts}
use Rattle.chart_term.specs.Labels.{labels, labels_row}
use Rattle.chart_term.specs.NormalForms.{numbers, numbers_row}
use Rattle.chart_term.specs.TermPatterns.{instances_of}
use Rattle.chart_term.specs.Terms.{Tree, Nil, Event, Join, Choice, Tied, Loop, Walk, Trees, none, more, Row, ends, gap, turn, weight, row_weight, has}

-- whether a walk stands in the term, in a loop operand of it or in a begun turn
abbrev mutual
  pub holds_walk : Tree → Bool
  holds_walk Nil = false
  holds_walk (Event e) = false
  holds_walk (Join m xs) = any_walk xs
  holds_walk (Choice xs) = any_walk xs
  holds_walk (Tied x q) = holds_walk x
  holds_walk (Loop x lo hi r) = holds_walk x || row_walk r
  holds_walk (Walk n s t c) = true

  pub any_walk : Trees → Bool
  any_walk none = false
  any_walk (more x xs) = holds_walk x || any_walk xs

  pub row_walk : Row → Bool
  row_walk ends = false
  row_walk (gap c r) = row_walk r
  row_walk (turn x r) = holds_walk x || row_walk r

-- the instances of the events of the term, of its loop operands and begun turns, but not of nets
abbrev mutual
  pub instances : Tree → List ℕ
  instances Nil = []
  instances (Event e) = (instances_of e).instances
  instances (Join m xs) = instances_all xs
  instances (Choice xs) = instances_all xs
  instances (Tied x q) = instances x
  instances (Loop x lo hi r) = instances x ++ instances_row r
  instances (Walk n s t c) = []

  pub instances_all : Trees → List ℕ
  instances_all none = []
  instances_all (more x xs) = instances x ++ instances_all xs

  pub instances_row : Row → List ℕ
  instances_row ends = []
  instances_row (gap c r) = instances_row r
  instances_row (turn x r) = instances x ++ instances_row r

-- the facts of a term
abbrev pub HasFacts : Tree → Facts → Type 0
HasFacts x f = AreFacts (weight x) (holds_walk x) (instances x) (numbers x) (labels x) f

-- the facts of a row
abbrev pub RowHasFacts : Row → Facts → Type 0
RowHasFacts r f = AreFacts (row_weight r) (row_walk r) (instances_row r) (numbers_row r) (labels_row r) f

-- no event of the term can be hit by the block: no walk is in it, none of its instances is in the block,
-- and no number of the block lies from its least to its greatest
abbrev pub misses : BlockValue → Tree → Bool
misses b x = (not (holds_walk x) && not (list_any (has (instances x)) b.instances)) && not (list_any (lies_in (span_of (numbers x))) b.events)

-- no event of the begun turns of a row can be hit by the block, as of a term; no gap can be hit
abbrev pub row_misses : BlockValue → Row → Bool
row_misses b r = (not (row_walk r) && not (list_any (has (instances_row r)) b.instances)) && not (list_any (lies_in (span_of (numbers_row r))) b.events)
