-- Walks over a sequence by stretches of neighbours.
use Rattle.std.specs.Prelude.{◌≡◌, ℕ, ◌+◌, ◌<◌, ◌≤◌, ◌++◌, List, length, take}

-- the items of the list from the index on, as far as they go
pub record IsAhead {T : Type 0} (xs : List T) (i : ℕ) (ys : List T) : Type 0 where
  pub filled : 0 < length ys
  pub within : i + length ys ≤ length xs
  pub next : take (i + length ys) xs ≡ take i xs ++ ys
