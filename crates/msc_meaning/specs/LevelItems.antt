-- The items of a level, the columns that they stand in, and the instances that they cover.
use Rattle.std.specs.Prelude.{ℕ, zero, suc, Bool, true, false, List, [], ◌∷◌, ◌++◌, Option, Some, None, if◌then◌else◌, map, filter}
use Rattle.std.specs.List.{list_any}
use Rattle.std.specs.Str.{bytes_eq}
use Rattle.msc_base.specs.declared.label.Kind.{Kind}
use Rattle.msc_base.specs.declared.label.Kind.TheVariants.{Create}
use Rattle.msc_tree.specs.declared.chart.Cover.{Cover}
use Rattle.msc_tree.specs.declared.chart.Cover.TheVariants.{All, Listed}
use Rattle.msc_tree.specs.declared.event.Target.{Target}
use Rattle.msc_tree.specs.declared.event.Target.TheVariants.{Instance}
use Rattle.msc_tree.specs.Statements.{Form, Condition, Stop}
use Rattle.msc_tree.specs.Statements as tree
use Rattle.msc_meaning.specs.Pieces.{Piece}

-- ---- the items of a level: parts of one name in its columns are one item

abbrev pub is_item : Form → Bool
is_item (Condition names shared) = false
is_item Stop = false
is_item _ = true

abbrev pub name_of : Form → Option (List ℕ)
name_of (tree.Inline head held) = head.name
name_of (tree.Refer reference) = reference.name
name_of _ = None

abbrev pub is_joined : Option (List ℕ) → Option (List ℕ) → Option (List ℕ) → Option (List ℕ) → Bool
is_joined (Some i) (Some a) (Some j) (Some b) = bytes_eq a b
is_joined _ _ _ _ = false

-- whether the piece is a part of the item that begins with the other
abbrev pub is_part : Piece → Piece → Bool
is_part p q = is_joined p.column (name_of p.form) q.column (name_of q.form)

abbrev pub is_part_of : Piece → List Piece → Bool
is_part_of p [] = false
is_part_of p (q ∷ qs) = is_part p q

abbrev pub with_piece : List (List Piece) → Piece → List (List Piece)
with_piece [] p = (p ∷ []) ∷ []
with_piece (x ∷ xs) p = if is_part_of p x then (x ++ p ∷ []) ∷ xs else x ∷ with_piece xs p

abbrev pub with_pieces : List (List Piece) → List Piece → List (List Piece)
with_pieces xs [] = xs
with_pieces xs (p ∷ ps) = with_pieces (if is_item p.form then with_piece xs p else xs) ps

-- the items of a level, in the order of their places, each with its parts
abbrev pub level_items : List Piece → List (List Piece)
level_items ps = with_pieces [] ps

-- ---- columns

abbrev pub is_in : List (List ℕ) → List ℕ → Bool
is_in names i = list_any (λ j. bytes_eq i j) names

-- a part of an item: its piece, and the number of the item
pub record Entry : Type 0 where
  pub item : ℕ
  pub piece : Piece

-- the number of the item that the piece is a part of, and where there is none so far, that of a new one
abbrev pub number_in : List (List Piece) → Piece → ℕ
number_in [] p = zero
number_in (x ∷ xs) p = if is_part_of p x then zero else suc (number_in xs p)

-- the parts of the items, in the order of the text, behind these items
abbrev pub entries_behind : List (List Piece) → List Piece → List Entry
entries_behind xs [] = []
entries_behind xs (p ∷ ps) = if is_item p.form then record { item = number_in xs p; piece = p } ∷ entries_behind (with_piece xs p) ps else entries_behind xs ps

abbrev pub entries : List Piece → List Entry
entries ps = entries_behind [] ps

-- the items in the column of an instance, in the order of the text
abbrev pub entries_at : List Entry → List ℕ → List ℕ
entries_at [] i = []
entries_at (e ∷ es) i = if is_in e.piece.leads i then e.item ∷ entries_at es i else entries_at es i

abbrev pub creates_by : Kind → Target → List ℕ → Bool
creates_by Create (Instance k) i = bytes_eq k i
creates_by _ _ i = false

abbrev pub is_creation : Form → List ℕ → Bool
is_creation (tree.Single e) i = creates_by e.kind e.target i
is_creation _ i = false

-- the creation of the instance
abbrev pub creations_of : List Entry → List ℕ → List ℕ
creations_of [] i = []
creations_of (e ∷ es) i = if is_creation e.piece.form i then e.item ∷ creations_of es i else creations_of es i

-- a creation stands first in the column of the child
abbrev pub column_of : List Entry → List ℕ → List ℕ
column_of es i = creations_of es i ++ entries_at es i

abbrev pub columns_of : List Entry → List (List ℕ) → List (List ℕ)
columns_of es is = map (column_of es) is

-- ---- covers

-- those of the level's instances that are among the names
abbrev pub within : List (List ℕ) → List (List ℕ) → List (List ℕ)
within is names = filter (is_in names) is

abbrev pub shared_of : Form → Option Cover
shared_of (tree.Inline head held) = head.shared
shared_of (tree.Refer reference) = reference.shared
shared_of _ = None

abbrev pub cover_by : List (List ℕ) → List (List ℕ) → Option (List ℕ) → Option Cover → List (List ℕ)
cover_by cover leads None shared = within cover leads
cover_by cover leads (Some i) None = i ∷ []
cover_by cover leads (Some i) (Some All) = cover
cover_by cover leads (Some i) (Some (Listed [])) = i ∷ []
cover_by cover leads (Some i) (Some (Listed (j ∷ js))) = within cover (j ∷ js)

-- the instances that an inline expression or a reference covers: in a column without a shared list that column alone
abbrev pub cover_of : List (List ℕ) → Piece → List (List ℕ)
cover_of cover p = cover_by cover p.leads p.column (shared_of p.form)
