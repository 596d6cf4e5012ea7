-- The term of an expansion that can be ranked is sound.
use Rattle.std.specs.Prelude.{◌<◌, ℕ, List, [], ◌++◌, map}
use Rattle.msc_base.specs.declared.label.Pair.{Pair}
use Rattle.msc_base.specs.Orders.{Among}
use Rattle.chart_term.specs.Tables.{Tables}
use Rattle.expansion_tree.specs.Expansions.{Event, InRow, Aside, OneOf, Exception, Turns, Tied, Walk, no_parts, part_and, events_in, all_events_in}
use Rattle.expansion_tree.specs.Expansions as tree
use Rattle.expansion_tree.specs.Numbered.{Expansion, Expansions}
use Rattle.expansion_tree.specs.declared.tree.ExpandedEvent.{ExpandedEvent}
use Rattle.expansion_order.specs.Ranks.{CanBeRanked}
use Rattle.expansion_tree.specs.Walks.{EachWalk}
use Rattle.expansion_terms.specs.ExpansionTerms.{event_term, numbered_term, part_terms}
use Rattle.expansion_terms.specs.MadeTerms.{IsWalkOf}
use Rattle.chart_term.specs.Terms.{Tree}
use Rattle.term_laws.specs.FullSoundness.{AreSoundNets, IsSoundNode}
use Rattle.expanded_terms.specs.ExpansionNumbers.{CountFrom, numbers_by}

abbrev pub expanded_number : ExpandedEvent → ℕ
expanded_number e = e.number

abbrev pub numbers_in : Expansion → List ℕ
numbers_in x = map expanded_number (events_in x)

-- the numbers of the events in loops and in walks
abbrev mutual
  pub looped_in : Expansion → List ℕ
  looped_in (Event e) = []
  looped_in (InRow xs) = all_looped_in xs
  looped_in (Aside xs) = all_looped_in xs
  looped_in (OneOf xs) = all_looped_in xs
  looped_in (Exception x) = looped_in x
  looped_in (Turns n lower upper x) = numbers_in x
  looped_in (Tied x ps) = looped_in x
  looped_in (Walk n g xs) = map expanded_number (all_events_in xs)

  pub all_looped_in : Expansions → List ℕ
  all_looped_in no_parts = []
  all_looped_in (part_and x xs) = looped_in x ++ all_looped_in xs

-- what is said of both numbers of each tie, in what it ties
abbrev mutual
  pub EachTie : {E : Type 0} → (tree.Expansion E → ℕ → Type 0) → tree.Expansion E → Type 0
  EachTie P (Event e) = Unit {0}
  EachTie P (InRow xs) = EachTies P xs
  EachTie P (Aside xs) = EachTies P xs
  EachTie P (OneOf xs) = EachTies P xs
  EachTie P (Exception x) = EachTie P x
  EachTie P (Turns n lower upper x) = EachTie P x
  EachTie P (Tied x ps) = ((p : Pair) → Among p ps → P x p.first × P x p.second) × EachTie P x
  EachTie P (Walk n g xs) = EachTies P xs

  pub EachTies : {E : Type 0} → (tree.Expansion E → ℕ → Type 0) → tree.Expansions E → Type 0
  EachTies P no_parts = Unit {0}
  EachTies P (part_and x xs) = EachTie P x × EachTies P xs

abbrev pub IsOutsideLoops : Expansion → ℕ → Type 0
IsOutsideLoops x j = Among j (looped_in x) → ⊥

-- the number is that of an event of the part, outside its loops and walks
pub record IsOwn (x : Expansion) (j : ℕ) : Type 0 where
  pub among : Among j (numbers_in x)
  pub outside : IsOutsideLoops x j

-- there are so many labels; the nets are sound, and each walk goes through one of them, whose nodes have the terms of the walk's
pub record RankedExpansionsAreSound : Type 0 where
  pub sound : (labels : ℕ) (w : Tables) (n : ℕ) (x : Expansion) (walk : ℕ → Tree) → AreSoundNets labels w → CountFrom n (numbers_by expanded_number x) → ((e : ExpandedEvent) → Among e (events_in x) → e.label < labels) → EachTie IsOwn x
      → CanBeRanked x → EachWalk (λ m g xs. IsWalkOf w g (part_terms event_term walk xs) (walk m)) x → IsSoundNode labels w (numbered_term walk x)
