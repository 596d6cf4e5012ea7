-- Serves private contracts alone.
-- The numbers of the events of a level, found by the numbers that they have in their chart.
use Rattle.std.specs.Prelude.{ℕ, ◌≡◌, ◌==◌, Bool, true, false, List, [], ◌∷◌, Option, Some, None, map}
use Rattle.std.specs.List.{flat_map}
use Rattle.msc_base.specs.declared.label.Pair.{Pair}
use Rattle.msc_unfolding.specs.Unfoldings.{Tag, Own, Via, On}
use Rattle.expanded_charts.specs.Expanding.{Shown, numbers_with, pairs_between}

abbrev pub number_if : Bool → ℕ → List ℕ → List ℕ
number_if true m ms = m ∷ ms
number_if false m ms = ms

-- the numbers that are shown of the event
abbrev pub numbers_of : ℕ → List Pair → List ℕ
numbers_of k [] = []
numbers_of k (p ∷ ps) = number_if (p.second == k) p.first (numbers_of k ps)

abbrev pub pairs_with : ℕ → List ℕ → List Pair
pairs_with m ns = map (λ n. record { first = m; second = n }) ns

-- the pairs of events in their order, each as all pairs of numbers that are shown of the first and the second
abbrev pub tie_pairs : List Pair → List Pair → List Pair
tie_pairs shown ts = flat_map (λ t. pairs_between (numbers_of t.first shown) (numbers_of t.second shown)) ts

abbrev pub listed : Option ℕ → List ℕ
listed None = []
listed (Some m) = m ∷ []

-- by the number of an event in its chart those that are shown of it are found: one at most
pub record AreNumbers (number : ℕ → Option ℕ) (shown : List Pair) : Type 0 where
  pub found : (k : ℕ) → listed (number k) ≡ numbers_of k shown

-- both numbers, where both are found
abbrev pub found_pair : Option ℕ → Option ℕ → List Pair
found_pair (Some m) (Some n) = record { first = m; second = n } ∷ []
found_pair (Some m) None = []
found_pair None o = []

-- the pairs of numbers of the pairs of events, as far as they are found
abbrev pub found_pairs : (ℕ → Option ℕ) → List Pair → List Pair
found_pairs number ts = flat_map (λ t. found_pair (number t.first) (number t.second)) ts

-- ---- ties at gates

-- the numbers that are shown of a tag: own: of events; gates: of gates
abbrev pub numbers_at : List Pair → Shown → Tag → List ℕ
numbers_at own gates (Own k) = numbers_of k own
numbers_at own gates (Via g) = numbers_with (Via g) gates
numbers_at own gates (On y g) = numbers_with (On y g) gates

abbrev pub gate_pairs : List Pair → Shown → List (Tag × Tag) → List Pair
gate_pairs own gates ts = flat_map (λ t. pairs_between (numbers_at own gates t.0) (numbers_at own gates t.1)) ts
