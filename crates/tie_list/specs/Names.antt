-- Tests of pairs by the numbers of their ends.
use Rattle.std.specs.Prelude.{ℕ, ◌==◌, ◌||◌, ◌&&◌, nat_le, Bool}
use Rattle.msc_base.specs.declared.label.Pair.{Pair}

-- the number lies from the least to the greatest
abbrev pub lies_in : ℕ → ℕ → ℕ → Bool
lies_in least greatest n = nat_le least n && nat_le n greatest

-- a number lies from the least to the greatest of both
abbrev pub overlap : ℕ → ℕ → ℕ → ℕ → Bool
overlap least greatest low high = nat_le least high && nat_le low greatest

-- an end of the pair lies from the least to the greatest number
abbrev pub has_end_in : ℕ → ℕ → Pair → Bool
has_end_in least greatest p = lies_in least greatest p.first || lies_in least greatest p.second

-- the second end of the pair is the number
abbrev pub has_second : ℕ → Pair → Bool
has_second n p = p.second == n
