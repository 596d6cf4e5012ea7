-- Serves private contracts alone.
-- The labels that were found so far.
use Rattle.std.specs.Prelude.{ℕ, ◌≡◌, ◌<◌, List, Some}
use Rattle.std.specs.List.Sorted.{IsStrictlySortedBy}
use Rattle.msc_base.specs.declared.label.Label.{Label}
use Rattle.msc_base.specs.Lists.{IsAmong}
use Rattle.chart_term.specs.TermPatterns.{Both}
use Rattle.chart_term.specs.Terms.{Tree}
use Rattle.term_tables.specs.NetValues.{NetsValue, label_number}
use Rattle.trace_judge.specs.Sets.{GoesOnWith}
use Rattle.next_labels.specs.Order.{label_cmp}

-- the label has a number below this one, and the terms go on with it
pub record Finds (v : NetsValue) (terms : List Tree) (most : ℕ) (a : Label) : Type 0 where
  pub number : ℕ
  pub below : number < most
  pub is : label_number v.labels a ≡ Some number
  pub goes_on : GoesOnWith v a terms

-- exactly the labels of numbers below this one with which the terms go on
pub record IsFoundUpTo (v : NetsValue) (terms : List Tree) (most : ℕ) (labels : List Label) : Type 0 where
  pub rising : IsStrictlySortedBy label_cmp labels
  pub exact : (a : Label) → Both (IsAmong labels a) (Finds v terms most a)
