-- Serves private contracts alone.
-- Words that were found, each once.
use Rattle.std.specs.HashSet.{contains}
use Rattle.std.specs.Prelude.{ℕ, ◌+◌, ◌/◌, ◌%◌, ◌^◌, ◌<◌, ◌≤◌, ◌⊎◌, Bool, true, false, List, ◌≡◌, length, nat_eq}
use Rattle.chart_term.specs.TermPatterns.{Both}
use Rattle.msc_base.specs.Lists.{AreDifferent, IsAmong}
use Rattle.term_sets.specs.declared.words.Words.{Words}

-- the words differ, and the table has them
pub record AreWords (f : Words) : Type 0 where
  pub different : AreDifferent f.list.items
  pub seen : (w : ℕ) → Both (contains nat_eq f.seen w ≡ true) (IsAmong f.list.items w)

-- whether there are no more words than there may be
pub record IsBounded (f : Words) (all : Bool) : Type 0 where
  pub within : all ≡ true → length f.list.items ≤ f.room
  pub beyond : all ≡ false → f.room < length f.list.items

-- the word is there, and else those that were
pub record AddsWord (w : ℕ) (old new : Words) (all : Bool) : Type 0 where
  pub words : AreWords new
  pub room : new.room ≡ old.room
  pub has : (v : ℕ) → Both (IsAmong new.list.items v) (IsAmong old.list.items v ⊎ (v ≡ w))
  pub bounded : IsBounded new all

-- the word is left of another without one of the bits, which that has
pub record IsWithout (bits : List ℕ) (w v : ℕ) : Type 0 where
  pub bit : ℕ
  pub among : IsAmong bits bit
  pub held : (w / 2 ^ bit) % 2 ≡ 1
  pub left : w ≡ v + 2 ^ bit

-- the words became more by some that are left of this one; by all of them, unless there are more than there may be
pub record TakesEach (bits : List ℕ) (w : ℕ) (old new : Words) (all : Bool) : Type 0 where
  pub words : AreWords new
  pub room : new.room ≡ old.room
  pub kept : (v : ℕ) → IsAmong old.list.items v → IsAmong new.list.items v
  pub each : (v : ℕ) → IsAmong new.list.items v → IsAmong old.list.items v ⊎ IsWithout bits w v
  pub whole : all ≡ true → (v : ℕ) → IsWithout bits w v → IsAmong new.list.items v
  pub bounded : IsBounded new all

-- the word is left of one of these
pub record IsWordLeft (bits words : List ℕ) (v : ℕ) : Type 0 where
  pub word : ℕ
  pub among : IsAmong words word
  pub without : IsWithout bits word v

-- the words are left of these; they are all, unless there are more than there may be
pub record IsEachLeft (bits words : List ℕ) (old new : Words) (all : Bool) : Type 0 where
  pub are : AreWords new
  pub room : new.room ≡ old.room
  pub each : (v : ℕ) → IsAmong new.list.items v → IsWordLeft bits words v
  pub whole : all ≡ true → (v : ℕ) → IsWordLeft bits words v → IsAmong new.list.items v
  pub bounded : IsBounded new all
