-- The largest numbers that what stores them has room for.
use Rattle.std.specs.Prelude.{ℕ}

-- in 64 bits: weights, and how many events there were
abbrev pub most_stored : ℕ
most_stored = 18446744073709551615

-- in 32 bits: numbers of events, of labels and of graphs
abbrev pub most_numbered : ℕ
most_numbered = 4294967295
