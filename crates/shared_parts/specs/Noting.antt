-- Serves private contracts alone.
-- Places that a walk notes, and where an item breaks the rules on parts.
use Rattle.std.specs.Prelude.{◌≡◌, ◌⊎◌, ◌↔◌, ⊤, ℕ, List, [], ◌∷◌}
use Rattle.level_pieces.specs.ItemParts.{AreInColumns, HasMore}
use Rattle.msc_base.specs.Lists.{IsAmong}
use Rattle.msc_base.specs.declared.place.Place.{Place}
use Rattle.msc_meaning.specs.LevelItems.{cover_of}
use Rattle.msc_meaning.specs.Pieces.{Piece, operands_of}
use Rattle.shared_parts.specs.PartRules.{AreAlike, BreaksPartRule, IsBroken}
use Rattle.shared_parts.specs.declared.faults.PartRule.{PartRule}
use Rattle.shared_parts.specs.declared.faults.PartRule.TheVariants.{NotShared, OperandsDiffer}
use Rattle.shared_parts.specs.declared.noting.PartPlaces.{PartPlaces}

-- it holds of one of them at that place
abbrev pub OneHolds : {A : Type 0} → (A → Place → Type 0) → List A → Place → Type 0
OneHolds Holds [] q = ⊥
OneHolds Holds (x ∷ xs) q = Holds x q ⊎ OneHolds Holds xs q

-- the new places are the old ones, and those at which it holds
abbrev pub AreNoted : (Place → Type 0) → List Place → List Place → Type 0
AreNoted Holds old new = (q : Place) → IsAmong new q ↔ (IsAmong old q ⊎ Holds q)

-- the places that are noted for the rule
abbrev pub noted : PartRule → PartPlaces → List Place
noted NotShared places = places.not_shared
noted OperandsDiffer places = places.differing

-- ---- items

-- the parts behind the first stand in columns, and where there are any, the first has a name
abbrev pub AreJoined : List Piece → Type 0
AreJoined [] = ⊥
AreJoined (p ∷ ps) = HasMore p ps × AreInColumns ps

-- each of the items has such parts
abbrev pub AreAllJoined : List (List Piece) → Type 0
AreAllJoined [] = ⊤
AreAllJoined (x ∷ xs) = AreJoined x × AreAllJoined xs

-- the part, of an item of these parts, breaks the rule at that place
abbrev pub BreaksAt : PartRule → List (List ℕ) → List Piece → Piece → Place → Type 0
BreaksAt rule cover parts p q = IsBroken rule cover parts p × (p.place ≡ q)

-- one of the item's own parts does
abbrev pub PartsBreak : PartRule → List (List ℕ) → List Piece → Place → Type 0
PartsBreak rule cover parts q = OneHolds (BreaksAt rule cover parts) parts q

-- the part differs from that form, at that place
abbrev pub DiffersAt : Piece → Piece → Place → Type 0
DiffersAt first p q = (AreAlike first.form p.form → ⊥) × (p.place ≡ q)

-- the item breaks the rule at that place, by its own parts or inside it
abbrev pub ItemBreaks : PartRule → List (List ℕ) → List Piece → Place → Type 0
ItemBreaks rule cover [] q = ⊥
ItemBreaks rule cover (p ∷ parts) q = PartsBreak rule cover (p ∷ parts) q ⊎ ((k : ℕ) × BreaksPartRule rule (cover_of cover p) (operands_of (cover_of cover p) k (p ∷ parts)) q)
