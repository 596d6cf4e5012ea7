-- Serves private contracts alone.
-- Marks of the labels with which terms go on, by their numbers.
use Rattle.std.specs.Prelude.{ℕ, ◌≡◌, ◌<◌, ◌⊎◌, List, Some, length}
use Rattle.bit_sets.specs.NodeSets.{NodeSetValue}
use Rattle.msc_base.specs.Lists.{IsIn}
use Rattle.msc_base.specs.declared.label.Label.{Label}
use Rattle.chart_term.specs.TermPatterns.{Both}
use Rattle.chart_term.specs.Terms.{Tree}
use Rattle.term_tables.specs.NetValues.{NetsValue, label_number}
use Rattle.trace_judge.specs.Sets.{GoesOnWith}

-- exactly the labels with which the terms go on are marked
pub record AreMarks (v : NetsValue) (terms : List Tree) (marks : NodeSetValue) : Type 0 where
  pub size : marks.size ≡ length v.labels
  pub exact : (a : Label) (n : ℕ) → label_number v.labels a ≡ Some n → Both (IsIn n marks.nodes) (GoesOnWith v a terms)

-- more is marked: labels with which the terms go on, and of those that were asked each with which they do
pub record MarksMore (v : NetsValue) (terms : List Tree) (asked : ℕ → Type 0) (old new : NodeSetValue) : Type 0 where
  pub size : new.size ≡ old.size
  pub keeps : (n : ℕ) → IsIn n old.nodes → IsIn n new.nodes
  pub sound : (n : ℕ) → IsIn n new.nodes → IsIn n old.nodes ⊎ ((a : Label) → label_number v.labels a ≡ Some n → GoesOnWith v a terms)
  pub whole : (a : Label) (n : ℕ) → label_number v.labels a ≡ Some n → asked n → n < old.size → GoesOnWith v a terms → IsIn n new.nodes
