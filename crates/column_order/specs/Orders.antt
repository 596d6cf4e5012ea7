-- The earliest order of items under a relation: which item may stand next, and which list is woven.
use Rattle.std.specs.Prelude.{◌≡◌, ℕ, ◌<◌, ◌≤◌, List, Some, slice_get, take}
use Rattle.msc_base.specs.Lists.{IsAmong}

-- at position i of the list stands x
abbrev pub IsAt : List ℕ → ℕ → ℕ → Type 0
IsAt xs i x = slice_get xs i ≡ Some x

-- x is one of the first n items, isn't among those in front, and all that must stand before it are
pub record IsDue (n : ℕ) (precedes : ℕ → ℕ → Type 0) (prefix : List ℕ) (x : ℕ) : Type 0 where
  pub inside : x < n
  pub remains : IsAmong prefix x → ⊥
  pub ready : (y : ℕ) → precedes y x → IsAmong prefix y

-- and it is the earliest such item
pub record IsNext (n : ℕ) (precedes : ℕ → ℕ → Type 0) (prefix : List ℕ) (x : ℕ) : Type 0 where
  pub due : IsDue n precedes prefix x
  pub earliest : (y : ℕ) → IsDue n precedes prefix y → x ≤ y

-- at each position stands the earliest item that is due there
abbrev pub IsEarliestFirst : ℕ → (ℕ → ℕ → Type 0) → List ℕ → Type 0
IsEarliestFirst n precedes xs = (i x : ℕ) → IsAt xs i x → IsNext n precedes (take i xs) x

-- an order of all items
pub record IsWhole (n : ℕ) (precedes : ℕ → ℕ → Type 0) (order : List ℕ) : Type 0 where
  pub every : (x : ℕ) → x < n → IsAmong order x
  pub earliest : IsEarliestFirst n precedes order

-- behind a list that can't go on, x is the earliest item that remains
pub record IsStuckAt (n : ℕ) (precedes : ℕ → ℕ → Type 0) (x : ℕ) : Type 0 where
  pub prefix : List ℕ
  pub earliest : IsEarliestFirst n precedes prefix
  pub stuck : (y : ℕ) → IsDue n precedes prefix y → ⊥
  pub inside : x < n
  pub remains : IsAmong prefix x → ⊥
  pub first : (y : ℕ) → y < n → (IsAmong prefix y → ⊥) → x ≤ y
