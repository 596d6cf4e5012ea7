-- Columns that cross: no item that remains is the first one of all its columns.
use Rattle.std.specs.Prelude.{◌≡◌, ℕ, List, ◌∷◌, length, Some, slice_get}
use Rattle.column_order.specs.Weaving.{IsCrossedAt}
use Rattle.msc_base.specs.declared.place.Place.{Place}
use Rattle.msc_meaning.specs.LevelItems.{level_items, entries, columns_of, cover_of}
use Rattle.msc_meaning.specs.Pieces.{Piece, operands_of}

-- the columns of a level of these pieces cross, or those of a level inside it, and at that place stands the earliest item that remains
pub data ColumnsCross : List (List ℕ) → List Piece → Place → Type 0 where
  crossed : {cover : List (List ℕ)} {ps : List Piece} {place : Place} (x : ℕ) (p : Piece) (parts : List Piece)
      → IsCrossedAt (length (level_items ps)) (columns_of (entries ps) cover) x → slice_get (level_items ps) x ≡ Some (p ∷ parts) → p.place ≡ place
      → ColumnsCross cover ps place
  inside : {cover : List (List ℕ)} {ps : List Piece} {place : Place} (x k : ℕ) (p : Piece) (parts : List Piece)
      → slice_get (level_items ps) x ≡ Some (p ∷ parts) → ColumnsCross (cover_of cover p) (operands_of (cover_of cover p) k (p ∷ parts)) place
      → ColumnsCross cover ps place
