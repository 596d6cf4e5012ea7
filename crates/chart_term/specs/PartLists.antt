-- Lists of parts: those of turns alone, and where a search passes over parts.
use Rattle.std.specs.Prelude.{ℕ, ◌≡◌, ◌<◌, ◌≤◌, ◌⊎◌, true, false, List, Option, Some, None, length, slice_get}
use Rattle.chart_term.specs.Facts.{holds_walk, instances}
use Rattle.chart_term.specs.Labels.{labels}
use Rattle.chart_term.specs.NormalForms.{has_gap}
use Rattle.chart_term.specs.Terms.{Tree, Part, Gap, Turn, has}

-- each part is a turn
abbrev pub AreTurns : List Part → Type 0
AreTurns ps = has_gap ps ≡ false

-- no walk stands in the term, and none of its events has the label
abbrev pub Lacks : ℕ → Tree → Type 0
Lacks a x = (holds_walk x ≡ false) × (has (labels x) a ≡ false)

-- no walk stands in the term, and each of its events is at these instances alone
abbrev pub IsWithin : List ℕ → Tree → Type 0
IsWithin c x = (holds_walk x ≡ false) × ((n : ℕ) → has (instances x) n ≡ true → has c n ≡ true)

-- a search for the label passes over the part: a turn that lacks the label, or whose events are at instances to be skipped
abbrev pub IsPassed : ℕ → List ℕ → Part → Type 0
IsPassed a c (Gap d) = ⊥
IsPassed a c (Turn x) = Lacks a x ⊎ IsWithin c x

-- it passes over all parts
abbrev pub AllPassed : ℕ → List ℕ → List Part → Type 0
AllPassed a c ps = (j : ℕ) (p : Part) → slice_get ps j ≡ Some p → IsPassed a c p

-- it passes over the parts at the places from the first up to the second
abbrev pub ArePassed : ℕ → List ℕ → List Part → ℕ → ℕ → Type 0
ArePassed a c ps i k = (j : ℕ) (p : Part) → i ≤ j → j < k → slice_get ps j ≡ Some p → IsPassed a c p

-- the place from the given one on where it stops, if it does
abbrev pub IsNext : List Part → ℕ → ℕ → List ℕ → Option ℕ → Type 0
IsNext ps i a c None = ArePassed a c ps i (length ps)
IsNext ps i a c (Some k) = (i ≤ k) × (k < length ps) × ArePassed a c ps i k
