-- Serves private contracts alone.
-- What walks over lists gather: sets that grow, and the earliest place so far.
use Rattle.std.specs.Prelude.{◌≡◌, ◌⊎◌, ◌↔◌, ℕ, Bool, true, List, [], ◌∷◌, Option, None, Some}
use Rattle.bit_sets.specs.Blocks.{has_bit}
use Rattle.msc_base.specs.Places.{is_before}
use Rattle.msc_base.specs.declared.place.Place.{Place}

-- it holds of one of them
abbrev pub OneHolds : {A N : Type 0} → (A → N → Type 0) → List A → N → Type 0
OneHolds Holds [] n = ⊥
OneHolds Holds (x ∷ xs) n = Holds x n ⊎ OneHolds Holds xs n

-- the new set has what the old one has, and that of which it holds
abbrev pub IsGrown : {N : Type 0} → (N → Type 0) → (N → Type 0) → (N → Type 0) → Type 0
IsGrown {N = N} Old Holds New = (n : N) → New n ↔ (Old n ⊎ Holds n)

abbrev pub HasBit : List ℕ → ℕ → Type 0
HasBit set n = has_bit set n ≡ true

-- the place so far, or one at which it holds
abbrev pub SoFarOr : Option Place → (Place → Type 0) → Place → Type 0
SoFarOr so_far Holds place = (so_far ≡ Some place) ⊎ Holds place

-- the place is earlier than that so far
abbrev pub is_wanted : Option Place → Place → Bool
is_wanted None place = true
is_wanted (Some other) place = is_before place other
