-- Events in a row below one tie, as a plain chart has them: their term, and their one unfolding.
use Rattle.std.specs.Prelude.{◌≡◌, ℕ, suc, Bool, List, [], ◌∷◌, None, Some, map, length}
use Rattle.std.specs.List.{slice_get}
use Rattle.msc_base.specs.declared.label.Label.{Label}
use Rattle.msc_base.specs.Orders.{Once}
use Rattle.msc_base.specs.Patterns.{seq, empty, one, join, bind}
use Rattle.msc_unfolding.specs.Unfoldings.{Tag, Own, Happening, Unfolding, level_tie}
use Rattle.chart_term.specs.NormalForms.{join_all, tie_of}
use Rattle.chart_term.specs.Terms.{TermEvent, Tree, Event}
use Rattle.term_laws.specs.FullSoundness.{IsFullySound, AreSoundNets}
use Rattle.sound_terms.specs.RisingRows.{DoRise}
use Rattle.term_meaning.specs.Meanings.{MeansUnfoldings}
use Rattle.term_tables.specs.NetValues.{NetsValue}

-- the event of this number
abbrev pub happening_of : ℕ → Label → Happening
happening_of n label = record { label = label; also = None; tags = Own n ∷ [] }

-- the events, numbered from n on, one after another
abbrev pub in_a_row : ℕ → List Label → Unfolding
in_a_row n [] = empty
in_a_row n (l ∷ ls) = join seq (one (happening_of n l)) (in_a_row (suc n) ls)

-- pairs of numbers as pairs of own tags
abbrev pub own_pairs : List (ℕ × ℕ) → List (Tag × Tag)
own_pairs q = map (λ (p : ℕ × ℕ). (Own p.0, Own p.1)) q

-- below the tie of these pairs; there is no other unfolding
abbrev pub TiedRow : List Label → List (ℕ × ℕ) → Unfolding → Type 0
TiedRow labels q u = u ≡ bind (in_a_row 0 labels) (level_tie (own_pairs q))

-- the event of a term for the label of this number
pub record IsEventOf (table : List Label) (names : List (List ℕ)) (n : ℕ) (l : Label) (e : TermEvent) : Type 0 where
  pub number : e.number ≡ n
  pub alone : e.also ≡ None
  pub label : slice_get table e.label ≡ Some l
  pub at : slice_get names e.at ≡ Some l.at

-- the events of a term for these labels, numbered from n on
abbrev pub AreEventsOf : List Label → List (List ℕ) → ℕ → List Label → List TermEvent → Type 0
AreEventsOf table names n [] [] = Unit {0}
AreEventsOf table names n [] (e ∷ es) = ⊥
AreEventsOf table names n (l ∷ ls) [] = ⊥
AreEventsOf table names n (l ∷ ls) (e ∷ es) = IsEventOf table names n l e × AreEventsOf table names (suc n) ls es

-- the term
abbrev pub tied_row : List TermEvent → List (ℕ × ℕ) → Tree
tied_row es q = tie_of (join_all seq (map Event es)) q

-- the events of a term for these labels, with their tables
pub record AreRowOf (v : NetsValue) (names : List (List ℕ)) (labels : List Label) (es : List TermEvent) : Type 0 where
  pub names_once : Once names
  pub labels_once : Once v.labels
  pub nets : AreSoundNets (length v.labels) v.tables
  pub events : AreEventsOf v.labels names 0 labels es

-- the term means the one unfolding; where the pairs rise it is sound in full
pub record TiedRowsMean : Type 0 where
  pub means : (v : NetsValue) (names : List (List ℕ)) (labels : List Label) (es : List TermEvent) (q : List (ℕ × ℕ)) (o : Bool) → AreRowOf v names labels es
      → MeansUnfoldings v names o (tied_row es q) (TiedRow labels q)
  pub sound : (v : NetsValue) (names : List (List ℕ)) (labels : List Label) (es : List TermEvent) (q : List (ℕ × ℕ)) → AreRowOf v names labels es → DoRise q
      → IsFullySound (length v.labels) v.tables (tied_row es q)
