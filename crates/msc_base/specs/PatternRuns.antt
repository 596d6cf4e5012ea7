-- The runs of a pattern by a reading, and of a set of patterns: the labels of a linear order of all positions.
use Rattle.std.specs.Prelude.{◌≡◌, List, ◌++◌, map}
use Rattle.msc_base.specs.Orders.{IsLinear}
use Rattle.msc_base.specs.Patterns.{Pattern, Position, Reading, event_at, Before}

-- the labels of these positions
abbrev pub labels_by : {E Q L : Type 0} → Reading E Q → (E → L) → (s : Pattern E Q) → List (Position s) → List L
labels_by r label s order = map (λ p. label (event_at r s p)) order

-- the labels are those of a linear order of the pattern
pub record IsRunBy {E Q L : Type 0} (r : Reading E Q) (label : E → L) (s : Pattern E Q) (run : List L) : Type 0 where
  pub order : List (Position s)
  pub linear : IsLinear (Before r s) order
  pub are : labels_by r label s order ≡ run

-- they are a run of one of these patterns
pub record IsRunAmong {E Q L : Type 0} (r : Reading E Q) (label : E → L) (patterns : Pattern E Q → Type 0) (labels : List L) : Type 0 where
  pub of : Pattern E Q
  pub is : patterns of
  pub run : IsRunBy r label of labels

-- a run of one of these patterns begins with them
pub record BeginsRunAmong {E Q L : Type 0} (r : Reading E Q) (label : E → L) (patterns : Pattern E Q → Type 0) (labels : List L) : Type 0 where
  pub rest : List L
  pub runs : IsRunAmong r label patterns (labels ++ rest)
