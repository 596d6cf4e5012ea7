-- Serves private contracts alone.
-- Columns whose items rise.
use Rattle.std.specs.Prelude.{◌≤◌, ⊤, ℕ, suc, List, [], ◌∷◌}
use Rattle.column_order.specs.declared.edge.Edge.{Edge}
use Rattle.column_order.specs.Counts.{targets}

-- the items rise, from n on
abbrev pub DoRise : ℕ → List ℕ → Type 0
DoRise n [] = ⊤
DoRise n (x ∷ xs) = (n ≤ x) × DoRise (suc x) xs

-- those of each column do
abbrev pub DoAllRise : List Edge → Type 0
DoAllRise entries = (column : ℕ) → DoRise 0 (targets entries column)
