-- Unfoldings as one draws them: the labels of the events from left to right, and which event is to stand before which. For the
-- worked charts.
use Rattle.std.specs.Prelude.{◌≡◌, ◌↔◌, ◌⊎◌, ℕ, ◌+◌, List, [], ◌∷◌, ◌++◌, map}
use Rattle.std.proofs.Common.{inl, inr}
use Rattle.msc_base.specs.declared.label.Label.{Label}
use Rattle.msc_base.specs.Lists.{IsAmong}
use Rattle.msc_base.specs.Patterns.{Pattern, empty, one, join, bind, Position, Before}
use Rattle.msc_unfolding.specs.Runs.{labels_at}
use Rattle.msc_unfolding.specs.Unfoldings.{Unfolding, plain}

-- how many events a pattern has
abbrev pub size : {E Q : Type 0} → Pattern E Q → ℕ
size empty = 0
size (one e) = 1
size (join m x y) = size x + size y
size (bind x t) = size x

-- the number of a position, counted from the left, from 0
abbrev pub number : {E Q : Type 0} → (s : Pattern E Q) → Position s → ℕ
number empty p = 0
number (one e) p = 0
number (join m x y) (inl p) = number x p
number (join m x y) (inr p) = size x + number y p
number (bind x t) p = number x p

-- the positions from left to right
abbrev pub positions : {E Q : Type 0} → (s : Pattern E Q) → List (Position s)
positions empty = []
positions (one e) = tt ∷ []
positions (join m x y) = left (positions x) ++ right (positions y)
  where
    left : List (Position x) → List (Position x ⊎ Position y)
    left l = map inl l

    right : List (Position y) → List (Position x ⊎ Position y)
    right l = map inr l
positions (bind x t) = positions x

-- a drawing: the labels, and pairs of numbers of which the first event is to stand before the second
pub record Shown : Type 0 where
  pub labels : List Label
  pub before : List (ℕ × ℕ)

-- the unfolding is drawn so
pub record IsShown (s : Shown) (u : Unfolding) : Type 0 where
  pub labels_are : labels_at u (positions u) ≡ s.labels
  pub before_is : (p q : Position u) → Before plain u p q ↔ IsAmong s.before (number u p, number u q)

-- the unfoldings of the set are those that are drawn so: there is one for each drawing, and no other
pub record AreShown (set : Unfolding → Type 0) (all : List Shown) : Type 0 where
  pub each : (s : Shown) → IsAmong all s → (u : Unfolding) × (set u × IsShown s u)
  pub every : (u : Unfolding) → set u → (s : Shown) × (IsAmong all s × IsShown s u)

abbrev pub before_each : ℕ → List ℕ → List (ℕ × ℕ)
before_each n ms = map (λ m. (n, m)) ms

-- each of the numbers before those behind it, as the events of one instance are
abbrev pub in_order : List ℕ → List (ℕ × ℕ)
in_order [] = []
in_order (n ∷ ns) = before_each n ns ++ in_order ns
