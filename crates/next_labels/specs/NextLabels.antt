-- The labels that may come next.
use Rattle.std.specs.Prelude.{List, ◌≡◌}
use Rattle.std.specs.List.Sorted.{IsStrictlySortedBy}
use Rattle.msc_base.specs.declared.label.Label.{Label}
use Rattle.msc_base.specs.Lists.{IsAmong}
use Rattle.chart_term.specs.TermPatterns.{Both}
use Rattle.chart_term.specs.Terms.{Tree}
use Rattle.term_tables.specs.NetValues.{NetsValue}
use Rattle.trace_judge.specs.Sets.{GoesOnWith}
use Rattle.next_labels.specs.Order.{label_cmp}

-- exactly the labels with the property, each once, in their order
pub record AreAll (P : Label → Type 0) (labels : List Label) : Type 0 where
  pub rising : IsStrictlySortedBy label_cmp labels
  pub exact : (a : Label) → Both (IsAmong labels a) (P a)

-- exactly the labels with which the terms go on
abbrev pub AreNextLabels : NetsValue → List Tree → List Label → Type 0
AreNextLabels v terms labels = AreAll (λ a. GoesOnWith v a terms) labels

-- lists of the same labels, each in their order, are the same
abbrev pub LabelListsAreOne : Type 0
LabelListsAreOne = (labels others : List Label) → IsStrictlySortedBy label_cmp labels → IsStrictlySortedBy label_cmp others → ((a : Label) → Both (IsAmong labels a) (IsAmong others a)) → labels ≡ others
