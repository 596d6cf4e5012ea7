-- Runs of patterns by taking out one minimal event after another, and by linear orders of all positions.
use Rattle.std.specs.Prelude.{ℕ, List, [], ◌∷◌, ◌≡◌}
use Rattle.msc_base.specs.PatternRuns.{IsRunBy, labels_by}
use Rattle.msc_base.specs.Patterns.{Position, event_at, Before, one, empty, join, bind}
use Rattle.chart_term.specs.TermPatterns.{Shape, Takes, HasNoEvent, numbered, Both}
use Rattle.chart_term.specs.Terms.{TermEvent}
use Rattle.std.proofs.Common.{inl, inr}

-- a run by residuals: the labels of the events, taken out one after another, each where it is minimal
pub data Runs : Shape → List ℕ → Type 0 where
  run_end : {s : Shape} → HasNoEvent s → Runs s []
  run_take : {s t : Shape} {e : TermEvent} {l : List ℕ} → Takes s e t → Runs t l → Runs s (e.label ∷ l)

abbrev pub label_of : TermEvent → ℕ
label_of e = e.label

-- the labels at these positions
abbrev pub labels : (s : Shape) → List (Position s) → List ℕ
labels s l = labels_by numbered label_of s l

-- a run by the plain reading: the labels of a linear order of all positions
abbrev pub IsLinearRun : Shape → List ℕ → Type 0
IsLinearRun = IsRunBy numbered label_of

-- the pattern without a position and its pairs
abbrev pub taken_out : (s : Shape) → Position s → Shape
taken_out empty p = empty
taken_out (one e) p = empty
taken_out (join m x y) (inl p) = join m (taken_out x p) y
taken_out (join m x y) (inr p) = join m x (taken_out y p)
taken_out (bind x r) p = bind (taken_out x p) r

-- nothing is to stand before the position
abbrev pub IsMinimal : (s : Shape) → Position s → Type 0
IsMinimal s p = (q : Position s) → Before numbered s q p → ⊥

-- the event stands at a minimal position, and taking that position out leaves t
pub record IsTakenAt (s : Shape) (e : TermEvent) (t : Shape) : Type 0 where
  pub position : Position s
  pub event : event_at numbered s position ≡ e
  pub left : taken_out s position ≡ t
  pub minimal : IsMinimal s position

-- taking an event out is taking a minimal position out
pub record TakesMinimal : Type 0 where
  pub exact : (s : Shape) (e : TermEvent) (t : Shape) → Both (Takes s e t) (IsTakenAt s e t)
