-- Levels that are woven in the order of their text: each item stands in one column.
use Rattle.std.specs.Prelude.{◌≡◌, ⊤, ℕ, false, List, [], ◌∷◌, Option, Some, None, slice_get}
use Rattle.std.specs.List.{flat_map}
use Rattle.msc_base.specs.Lists.{AreDifferent, IsAmong}
use Rattle.msc_base.specs.declared.label.Pair.{Pair}
use Rattle.msc_base.specs.declared.place.Place.{Place}
use Rattle.msc_tree.specs.Statements.{Form, Condition, Inline, Refer, Stop}
use Rattle.msc_tree.specs.Statements as tree
use Rattle.msc_meaning.specs.Bodies.{Body, level, WovenItem, Single, Coregion, items, events}
use Rattle.msc_meaning.specs.Crossings.{ColumnsCross}
use Rattle.msc_meaning.specs.LevelItems.{is_creation}
use Rattle.msc_meaning.specs.Levels.{IsWovenLevel, nodes_from}
use Rattle.msc_meaning.specs.Pairing.{ArePairs}
use Rattle.msc_meaning.specs.Pieces.{Piece}

-- ---- items in the order of the text

-- of an event or a coregion at this instance, with its events numbered from n on; other forms have none
abbrev pub form_items : Option (List ℕ) → ℕ → Form → List WovenItem
form_items None n form = []
form_items (Some at) n (tree.Single e) = Single (record { number = n; at = at; event = e }) ∷ []
form_items (Some at) n (tree.Coregion es) = Coregion (nodes_from n at es) ∷ []
form_items (Some at) n _ = []

abbrev pub piece_items : Piece → List WovenItem
piece_items p = form_items (slice_get p.leads 0) p.first p.form

abbrev pub pieces_items : List Piece → List WovenItem
pieces_items ps = flat_map piece_items ps

-- ---- one column each

-- one instance, and the level covers it
abbrev pub IsOneCovered : List (List ℕ) → List (List ℕ) → Type 0
IsOneCovered cover [] = ⊥
IsOneCovered cover (at ∷ []) = IsAmong cover at
IsOneCovered cover (at ∷ other ∷ leads) = ⊥

-- no instance is created: a creation would stand in the column of the child too
abbrev pub CreatesNobody : Form → Type 0
CreatesNobody form = (child : List ℕ) → is_creation form child ≡ false

-- conditions and stops are no items, and stand in no column
abbrev pub IsFormInOneColumn : List (List ℕ) → List (List ℕ) → Form → Type 0
IsFormInOneColumn cover leads (tree.Single e) = IsOneCovered cover leads × CreatesNobody (tree.Single e)
IsFormInOneColumn cover leads (tree.Coregion es) = IsOneCovered cover leads
IsFormInOneColumn cover leads (Condition names shared) = ⊤
IsFormInOneColumn cover leads (Inline head held) = ⊥
IsFormInOneColumn cover leads (Refer reference) = ⊥
IsFormInOneColumn cover leads Stop = ⊤

-- the piece is an event or a coregion at one instance that the level covers, or no item
abbrev pub IsInOneColumn : List (List ℕ) → Piece → Type 0
IsInOneColumn cover p = IsFormInOneColumn cover p.leads p.form

abbrev pub AreInOneColumn : List (List ℕ) → List Piece → Type 0
AreInOneColumn cover [] = ⊤
AreInOneColumn cover (p ∷ ps) = IsInOneColumn cover p × AreInOneColumn cover ps

-- ---- the law

-- a level whose items stand in one column each is woven in the order of its text, with the pairs of its events, and to nothing else; its
-- columns never cross
pub record TextIsOrder : Type 0 where
  pub is_woven : (cover : List (List ℕ)) (ps : List Piece) (pairs : List Pair) → AreDifferent cover → AreInOneColumn cover ps → ArePairs (events (items (pieces_items ps))) pairs
      → IsWovenLevel cover ps (level cover (items (pieces_items ps)) pairs)
  pub only : (cover : List (List ℕ)) (ps : List Piece) (b : Body) → AreDifferent cover → AreInOneColumn cover ps → IsWovenLevel cover ps b
      → (pairs : List Pair) × (b ≡ level cover (items (pieces_items ps)) pairs) × ArePairs (events (items (pieces_items ps))) pairs
  pub none_cross : (cover : List (List ℕ)) (ps : List Piece) (place : Place) → AreDifferent cover → AreInOneColumn cover ps → ColumnsCross cover ps place → ⊥
