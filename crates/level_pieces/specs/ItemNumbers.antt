-- How items get their numbers: a piece with a name in a column is a part of the first item of that name in a column.
use Rattle.std.specs.Prelude.{◌≡◌, ◌<◌, ⊤, ℕ, zero, suc, Bool, false, List, [], ◌∷◌, ◌++◌, length, map, Option, Some, None, position, slice_get, if◌then◌else◌}
use Rattle.std.specs.Str.{bytes_eq}
use Rattle.msc_meaning.specs.LevelItems.{Entry, is_item, name_of, number_in, with_piece}
use Rattle.msc_meaning.specs.Pieces.{Piece}
use Rattle.level_pieces.specs.PieceViews.{parts_view}
use Rattle.level_pieces.specs.declared.numbering.Numbering.{Numbering}

-- the name by which parts in columns are one item
abbrev pub joint_of : Option (List ℕ) → Option (List ℕ) → Option (List ℕ)
joint_of None name = None
joint_of (Some column) name = name

abbrev pub joint_name : Piece → Option (List ℕ)
joint_name p = joint_of p.column (name_of p.form)

abbrev pub is_named : Option (List ℕ) → List ℕ → Bool
is_named None n = false
is_named (Some b) n = bytes_eq n b

abbrev pub begins_named : List Piece → List ℕ → Bool
begins_named [] n = false
begins_named (q ∷ qs) n = is_named (joint_name q) n

-- the number of the first item of that name, and where there is none, how many items there are
abbrev pub named_in : List (List Piece) → List ℕ → ℕ
named_in [] n = zero
named_in (x ∷ xs) n = if begins_named x n then zero else suc (named_in xs n)

-- one part more of the item of that number
abbrev pub with_part : List (List Piece) → ℕ → Piece → List (List Piece)
with_part [] n p = []
with_part (x ∷ xs) zero p = (x ++ p ∷ []) ∷ xs
with_part (x ∷ xs) (suc n) p = x ∷ with_part xs n p

-- the first parts of the items
abbrev pub first_parts : List (List Piece) → List Piece
first_parts [] = []
first_parts ([] ∷ xs) = first_parts xs
first_parts ((p ∷ ps) ∷ xs) = p ∷ first_parts xs

-- a name that the table lacks is that of no item; the number of one that it has is that of its item
abbrev pub IsKnown : List (List Piece) → List ℕ → Option ℕ → List ℕ → Type 0
IsKnown xs numbers None n = named_in xs n ≡ length xs
IsKnown xs numbers (Some i) n = (slice_get numbers i ≡ Some (named_in xs n)) × (named_in xs n < length xs)

-- the numbering is that of these items
pub record IsNumbering (xs : List (List Piece)) (numbering : Numbering) : Type 0 where
  pub items : map parts_view numbering.items.items ≡ xs
  pub long : length numbering.numbers.items ≡ length numbering.names
  pub known : (n : List ℕ) → IsKnown xs numbering.numbers.items (position (bytes_eq n) numbering.names) n

-- one piece more
abbrev pub with_next : List (List Piece) → Piece → List (List Piece)
with_next xs p = if is_item p.form then with_piece xs p else xs

-- the entry of the piece, where it is a part of an item
abbrev pub next_entries : List (List Piece) → Piece → List Entry
next_entries xs p = if is_item p.form then (record { item = number_in xs p; piece = p }) ∷ [] else []

-- the entries are of so many items
abbrev pub AreInside : ℕ → List Entry → Type 0
AreInside n [] = ⊤
AreInside n (e ∷ es) = (e.item < n) × AreInside n es

-- it is the numbering of some items
abbrev pub HasNumbering : Numbering → Type 0
HasNumbering numbering = (xs : List (List Piece)) × IsNumbering xs numbering
