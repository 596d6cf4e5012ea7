-- The body that a level is woven to, by the instances that it covers and its pieces, and why it can't be woven.
use Rattle.std.specs.Prelude.{⊤, ℕ, List, Some}
use Rattle.level_weaving.specs.declared.weaving.WeaveFault.{WeaveFault}
use Rattle.level_weaving.specs.declared.weaving.WeaveFault.TheVariants.{Crossed, Unmatched, NoMemory}
use Rattle.msc_base.specs.Places.{IsLeast}
use Rattle.msc_base.specs.declared.place.Place.{Place}
use Rattle.msc_meaning.specs.Bodies.{Body}
use Rattle.msc_meaning.specs.Crossings.{ColumnsCross}
use Rattle.msc_meaning.specs.Levels.{IsWovenLevel}
use Rattle.msc_meaning.specs.Partners.{LacksPartner}
use Rattle.msc_meaning.specs.Pieces.{Piece}

-- at that place an output or an input stands that has no partner in what the level is woven to
pub record IsAloneIn (cover : List (List ℕ)) (ps : List Piece) (place : Place) : Type 0 where
  pub body : Body
  pub woven : IsWovenLevel cover ps body
  pub alone : LacksPartner body place

-- the level can be woven, each message has both ends, and that is its body
pub record IsLevelWoven (cover : List (List ℕ)) (ps : List Piece) (body : Body) : Type 0 where
  pub uncrossed : (p : Place) → ColumnsCross cover ps p → ⊥
  pub matched : (p : Place) → IsAloneIn cover ps p → ⊥
  pub woven : IsWovenLevel cover ps body

-- the first fault of a level: columns that cross; else a message without partner
abbrev pub IsLevelFault : List (List ℕ) → List Piece → WeaveFault → Type 0
IsLevelFault cover ps (Crossed p) = IsLeast (ColumnsCross cover ps) (Some p)
IsLevelFault cover ps (Unmatched p) = ((q : Place) → ColumnsCross cover ps q → ⊥) × IsLeast (IsAloneIn cover ps) (Some p)
IsLevelFault cover ps NoMemory = ⊤
