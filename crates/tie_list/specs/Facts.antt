-- Bounds of the ends of pairs.
use Rattle.std.specs.Prelude.{◌≤◌, List, [], ◌∷◌}
use Rattle.msc_base.specs.declared.label.Pair.{Pair}
use Rattle.tie_list.specs.declared.facts.Bounds.{Bounds}

-- both ends of the pair are within the bounds
pub record IsWithin (p : Pair) (b : Bounds) : Type 0 where
  pub least_first : b.least_first ≤ p.first
  pub greatest_first : p.first ≤ b.greatest_first
  pub least_second : b.least_second ≤ p.second
  pub greatest_second : p.second ≤ b.greatest_second

-- so are those of all pairs
abbrev pub AreWithin : List Pair → Bounds → Type 0
AreWithin [] b = Unit {0}
AreWithin (p ∷ ps) b = IsWithin p b × AreWithin ps b
