-- Serves private contracts alone.
-- What a set becomes when the members of another are added.
use Rattle.std.specs.Prelude.{ℕ, List, ◌≡◌, ◌||◌}
use Rattle.chart_term.specs.Terms.{has}

-- the new set has the members of the old one and these
pub record IsUnion (old added new : List ℕ) : Type 0 where
  pub same : (n : ℕ) → has new n ≡ (has old n || has added n)
