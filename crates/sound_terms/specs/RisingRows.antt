-- Rows of events whose numbers rise, below a tie whose pairs rise: plain charts in the order of their text.
use Rattle.std.specs.Prelude.{ℕ, suc, ◌<◌, true, List, [], ◌∷◌, ◌≡◌, map}
use Rattle.msc_base.specs.Patterns.{seq}
use Rattle.chart_term.specs.NormalForms.{join_all, tie_of}
use Rattle.chart_term.specs.Tables.{Tables}
use Rattle.chart_term.specs.TermPatterns.{pairs}
use Rattle.chart_term.specs.Terms.{TermEvent, Event}
use Rattle.term_laws.specs.FullSoundness.{IsSoundNode, AreSoundNets}

-- the events have the numbers from n on, one after another, and labels of the table
abbrev pub AreNumberedFrom : ℕ → ℕ → List TermEvent → Type 0
AreNumberedFrom labels n [] = Unit {0}
AreNumberedFrom labels n (e ∷ es) = (e.number ≡ n) × (e.label < labels) × AreNumberedFrom labels (suc n) es

-- each pair goes from a lower number to a higher
abbrev pub DoRise : List (ℕ × ℕ) → Type 0
DoRise q = (m n : ℕ) → pairs q m n ≡ true → m < n

-- over sound tables the row of these events, tied by these pairs, is sound in full
pub record RisingRowsAreSound : Type 0 where
  pub sound : (labels n : ℕ) (w : Tables) (es : List TermEvent) (q : List (ℕ × ℕ)) → AreSoundNets labels w → AreNumberedFrom labels n es → DoRise q
      → IsSoundNode labels w (tie_of (join_all seq (map Event es)) q)
