-- Serves private contracts alone.
-- Relations on numbers, as rows of bits.
use Rattle.std.specs.Prelude.{◌≡◌, ◌↔◌, ◌<◌, ℕ, Bool, true, ◌||◌, ◌&&◌, List, [], length, slice_index_or}
use Rattle.bit_sets.specs.Blocks.{has_bit}

-- the row of the first number has the second
abbrev pub row_has : List (List ℕ) → ℕ → ℕ → Bool
row_has rows from to = has_bit (slice_index_or rows from []) to

abbrev pub RowHas : List (List ℕ) → ℕ → ℕ → Type 0
RowHas rows from to = row_has rows from to ≡ true

-- each number below the count has itself alone
pub record IsIdentity (count : ℕ) (rows : List (List ℕ)) : Type 0 where
  pub len : length rows ≡ count
  pub has : (u v : ℕ) → RowHas rows u v ↔ ((u < count) × (v ≡ u))

-- no row has a number
pub record AreEmpty (count : ℕ) (rows : List (List ℕ)) : Type 0 where
  pub len : length rows ≡ count
  pub none : (u v : ℕ) → RowHas rows u v → ⊥

-- each row that has the middle number has the numbers of that set too
pub record IsPassed (middle : ℕ) (through : List ℕ) (old new : List (List ℕ)) : Type 0 where
  pub len : length new ≡ length old
  pub has : (u v : ℕ) → row_has new u v ≡ (row_has old u v || (row_has old u middle && has_bit through v))

-- from row to row, at least once
pub data IsPath (rows : List (List ℕ)) : ℕ → ℕ → Type 0 where
  at_once : {u v : ℕ} → RowHas rows u v → IsPath rows u v
  by_way : {u v w : ℕ} → RowHas rows u v → IsPath rows v w → IsPath rows u w

-- the new rows are the paths of the old
pub record IsClosure (old new : List (List ℕ)) : Type 0 where
  pub len : length new ≡ length old
  pub has : (u v : ℕ) → RowHas new u v ↔ IsPath old u v

-- one of the sets has the number, and its own number is in the first
pub record IsGathered (first : List ℕ) (sets : List (List ℕ)) (n : ℕ) : Type 0 where
  pub middle : ℕ
  pub leads : has_bit first middle ≡ true
  pub has : RowHas sets middle n

-- each row has the numbers of the sets to which the first rows lead
pub record AreGathered (over sets rows : List (List ℕ)) : Type 0 where
  pub len : length rows ≡ length over
  pub has : (u n : ℕ) → RowHas rows u n ↔ IsGathered (slice_index_or over u []) sets n
