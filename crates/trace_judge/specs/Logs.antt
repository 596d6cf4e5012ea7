-- The residual terms after a list of labels, and what that list is for the term: a run, or the beginning of one.
use Rattle.std.specs.Prelude.{ℕ, ◌≡◌, ◌≤◌, ◌<◌, List, [], ◌∷◌, Some, map}
use Rattle.msc_base.specs.declared.label.Label.{Label}
use Rattle.term_tables.specs.NetValues.{NetsValue, label_number}
use Rattle.chart_term.specs.TermPatterns.{Both}
use Rattle.chart_term.specs.Terms.{Tree}
use Rattle.term_laws.specs.Listing.{set_weight}
use Rattle.msc_base.specs.Lists.{IsAmong}
use Rattle.line_events.specs.declared.event.LineEvent.{LineEvent}
use Rattle.term_laws.specs.Normality.{AreDifferent}
use Rattle.term_laws.specs.Permission.{permits_of}
use Rattle.term_laws.specs.Residuals.{IsResidual, BeginsRun, IsFinishedRun}

-- the labels of events
abbrev pub labels_of : List LineEvent → List Label
labels_of events = map (λ (e : LineEvent). e.label) events

-- the labels have these numbers in the table
abbrev pub AreNumbers : List Label → List Label → List ℕ → Type 0
AreNumbers table [] [] = Unit {0}
AreNumbers table [] (n ∷ ns) = ⊥
AreNumbers table (a ∷ l) [] = ⊥
AreNumbers table (a ∷ l) (n ∷ ns) = (label_number table a ≡ Some n) × AreNumbers table l ns

-- y is left of x after events with these labels
pub record IsLeft (v : NetsValue) (x : Tree) (labels : List Label) (y : Tree) : Type 0 where
  pub numbers : List ℕ
  pub are : AreNumbers v.labels labels numbers
  pub left : IsResidual (permits_of v.tables) x numbers y

-- the list has exactly the terms that are left of x after events with these labels, each once
pub record AreResiduals (v : NetsValue) (x : Tree) (labels : List Label) (set : List Tree) : Type 0 where
  pub different : AreDifferent set
  pub exact : (y : Tree) → Both (IsAmong set y) (IsLeft v x labels y)

-- a run of the term begins with these labels; runs of walks under way count
pub record BeginsTermRun (v : NetsValue) (x : Tree) (labels : List Label) : Type 0 where
  pub numbers : List ℕ
  pub are : AreNumbers v.labels labels numbers
  pub begins : BeginsRun v.tables x numbers

-- the labels are a finished run of the term
pub record IsTermRun (v : NetsValue) (x : Tree) (labels : List Label) : Type 0 where
  pub numbers : List ℕ
  pub are : AreNumbers v.labels labels numbers
  pub run : IsFinishedRun v.tables x numbers

-- what is left after the labels weighs no more than the budget
pub record WeighsWithin (v : NetsValue) (x : Tree) (budget : ℕ) (labels : List Label) : Type 0 where
  pub set : List Tree
  pub are : AreResiduals v x labels set
  pub within : set_weight set ≤ budget

-- what is left after the labels weighs more
pub record WeighsMore (v : NetsValue) (x : Tree) (budget : ℕ) (labels : List Label) : Type 0 where
  pub set : List Tree
  pub are : AreResiduals v x labels set
  pub above : budget < set_weight set
