-- Serves private contracts alone.
-- Walks over links that keep the earliest place so far.
use Rattle.std.specs.Prelude.{◌≡◌, ◌⊎◌, ℕ, true, List, Option, None, Some}
use Rattle.bit_sets.specs.Blocks.{has_bit}
use Rattle.chart_text.specs.Texts.{Scope}
use Rattle.msc_base.specs.declared.place.Place.{Place}
use Rattle.chart_links.specs.References.{Covers}

-- the place so far, or one at which it holds
abbrev pub SoFarOr : Option Place → (Place → Type 0) → Place → Type 0
SoFarOr so_far Holds place = (so_far ≡ Some place) ⊎ Holds place

-- an instance of that number, if it has one, is in the set, and not covered
abbrev pub IsOutside : List ℕ → Option ℕ → List ℕ → Scope → Type 0
IsOutside set None name cover = ⊥
IsOutside set (Some number) name cover = (has_bit set number ≡ true) × (Covers cover name → ⊥)
