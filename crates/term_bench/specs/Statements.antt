-- Serves private contracts alone.
-- The events of a plain chart of many statements.
use Rattle.std.specs.Prelude.{ℕ, suc, List, [], ◌∷◌, ◌≡◌, length, map}
use Rattle.chart_term.specs.Terms.{TermEvent, Tree, Event}
use Rattle.sound_terms.specs.RisingRows.{AreNumberedFrom}

-- the events have the labels from n on, one after another
abbrev pub AreLabelledFrom : ℕ → List TermEvent → Type 0
AreLabelledFrom n [] = Unit {0}
AreLabelledFrom n (e ∷ es) = (e.label ≡ n) × AreLabelledFrom (suc n) es

-- the terms are so many events, numbered from 0 on, each with its number as its label; the table has so many labels
pub record AreStatements (labels : ℕ) (xs : List Tree) (count : ℕ) : Type 0 where
  pub events : List TermEvent
  pub are : xs ≡ map Event events
  pub numbered : AreNumberedFrom labels 0 events
  pub labelled : AreLabelledFrom 0 events
  pub long : length events ≡ count
