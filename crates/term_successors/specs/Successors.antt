-- What is left of a term, and of some terms, after an event with a given label; and lists of terms in their order.
use Rattle.std.specs.Prelude.{List, [], ◌∷◌, ◌≡◌, Some}
use Rattle.std.specs.declared.cmp.Ordering.TheVariants.{Less}
use Rattle.msc_base.specs.declared.label.Label.{Label}
use Rattle.msc_base.specs.Lists.{IsAmong}
use Rattle.term_tables.specs.NetValues.{label_number, NetsValue}
use Rattle.chart_term.specs.Order.{tree_cmp}
use Rattle.chart_term.specs.Properties.{Each}
use Rattle.chart_term.specs.Terms.{TermEvent, Tree}
use Rattle.term_laws.specs.Permission.{permits_of}
use Rattle.term_laws.specs.Taking.{IsAfter}

-- y is left of x after some event with the label
pub record IsSuccessor (v : NetsValue) (label : Label) (x y : Tree) : Type 0 where
  pub event : TermEvent
  pub labelled : label_number v.labels label ≡ Some event.label
  pub after : IsAfter (permits_of v.tables) x event y

-- y is left of one of the terms after an event with the label
pub record IsLeftOf (v : NetsValue) (label : Label) (terms : List Tree) (y : Tree) : Type 0 where
  pub term : Tree
  pub held : IsAmong terms term
  pub left : IsSuccessor v label term y

-- the terms rise in the order of terms
abbrev pub AreRising : List Tree → Type 0
AreRising [] = Unit {0}
AreRising (x ∷ xs) = Each (λ y. tree_cmp x y ≡ Less) xs × AreRising xs
