-- Serves private contracts alone.
-- Events that no pair has.
use Rattle.std.specs.Prelude.{◌≡◌, ◌⊎◌, ◌↔◌, ◌&&◌, ℕ, Bool, true, false, not, List, [], ◌∷◌, length, get_or, Option, Some, None}
use Rattle.msc_base.specs.declared.place.Place.{Place}
use Rattle.column_order.specs.declared.edge.Edge.{Edge}
use Rattle.msc_tree.specs.declared.event.Direction.{Direction}
use Rattle.msc_meaning.specs.Bodies.{EventNode}
use Rattle.level_weaving.specs.Messages.{way}

-- one of the pairs has the number
abbrev pub HasEnd : List Edge → ℕ → Type 0
HasEnd [] p = ⊥
HasEnd (e ∷ pairs) p = (e.from ≡ p) ⊎ ((e.to ≡ p) ⊎ HasEnd pairs p)

-- for so many numbers whether one has it
pub record AreTold (pairs : List Edge) (count : ℕ) (told : List Bool) : Type 0 where
  pub each : length told ≡ count
  pub are : (p : ℕ) → (get_or told p false ≡ true) ↔ HasEnd pairs p

abbrev pub is_message : Option Direction → Bool
is_message None = false
is_message (Some direction) = true

-- at that place an output or an input stands that no pair has
abbrev pub IsAlone : List EventNode → List Bool → Place → Type 0
IsAlone [] told p = ⊥
IsAlone (e ∷ events) [] p = ⊥
IsAlone (e ∷ events) (t ∷ told) p = ((e.event.place ≡ p) × ((is_message (way e) && not t) ≡ true)) ⊎ IsAlone events told p
