-- Intervals of event numbers.
use Rattle.std.specs.Prelude.{ℕ, ◌≤◌, ◌<◌, ◌⊎◌}

abbrev pub IsInside : ℕ → ℕ → ℕ → Type 0
IsInside lo hi n = (lo ≤ n) × (n < hi)

abbrev pub IsBeyond : ℕ → ℕ → ℕ → Type 0
IsBeyond lo hi n = (n < lo) ⊎ (hi ≤ n)
