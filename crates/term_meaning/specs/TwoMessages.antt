-- Two messages, there and back, with their tables and their term.
use Rattle.std.specs.Prelude.{ℕ, Bool, List, [], ◌∷◌, None, ◌≡◌, codes}
use Rattle.msc_base.specs.declared.label.Label.{Label}
use Rattle.msc_base.specs.declared.label.Kind.{Kind}
use Rattle.msc_base.specs.declared.label.Kind.TheVariants.{Output, Input}
use Rattle.msc_base.specs.declared.label.Far.TheVariants.{Instance}
use Rattle.msc_base.specs.Patterns.{seq}
use Rattle.term_tables.specs.NetValues.{NetsValue}
use Rattle.chart_term.specs.Terms.{TermEvent, Event, Join, Tied, trees}
use Rattle.term_laws.specs.FullSoundness.{IsFullySound}
use Rattle.term_meaning.specs.Meanings.{MeansUnfoldings}
use Rattle.term_meaning.specs.TiedRows.{TiedRow, tied_row}

abbrev label : List ℕ → Kind → List ℕ → List ℕ → Label
label at kind text far = record { at = at; kind = kind; text = text; far = Instance far }

-- i sends a to j, and j sends b back
abbrev pub two_messages : List Label
two_messages = label (codes "i") Output (codes "a") (codes "j") ∷ label (codes "j") Input (codes "a") (codes "i") ∷ label (codes "j") Output (codes "b") (codes "i") ∷ label (codes "i") Input (codes "b") (codes "j") ∷ []

abbrev pub their_pairs : List (ℕ × ℕ)
their_pairs = (0, 1) ∷ (2, 3) ∷ []

-- the labels in the order of the text, and no nets
abbrev pub their_tables : NetsValue
their_tables = record { labels = two_messages; tables = [] }

abbrev pub their_names : List (List ℕ)
their_names = codes "i" ∷ codes "j" ∷ []

abbrev event : ℕ → ℕ → TermEvent
event n at = record { number = n; at = at; also = None; label = n }

abbrev pub their_events : List TermEvent
their_events = event 0 0 ∷ event 1 1 ∷ event 2 1 ∷ event 3 0 ∷ []

-- four events in a row below a tie of two pairs: the term means the chart's one unfolding and no other, and is sound in full
pub record TwoMessagesMean : Type 0 where
  pub term : tied_row their_events their_pairs ≡ Tied (Join seq (trees (Event (event 0 0) ∷ Event (event 1 1) ∷ Event (event 2 1) ∷ Event (event 3 0) ∷ []))) ((0, 1) ∷ (2, 3) ∷ [])
  pub means : (o : Bool) → MeansUnfoldings their_tables their_names o (tied_row their_events their_pairs) (TiedRow two_messages their_pairs)
  pub sound : IsFullySound 4 [] (tied_row their_events their_pairs)
