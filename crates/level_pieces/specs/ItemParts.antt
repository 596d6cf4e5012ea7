-- The parts of an item, as a level whose pieces are well formed has them.
use Rattle.std.specs.Prelude.{ℕ, Bool, ◌≡◌, ⊤, true, false, List, [], ◌∷◌, None}
use Rattle.level_pieces.specs.PieceNumbers.{AreNumbered}
use Rattle.level_pieces.specs.FormedPieces.{AreFormed}
use Rattle.msc_base.specs.declared.place.Place.{Place}
use Rattle.msc_meaning.specs.Bodies.{WovenItem, Refer}
use Rattle.msc_meaning.specs.LevelItems.{is_item, name_of}
use Rattle.msc_meaning.specs.Pieces.{Piece}
use Rattle.msc_tree.specs.Statements.{Form, Single, Coregion, Reference}

-- an event or a coregion
abbrev pub has_events : Form → Bool
has_events (Single e) = true
has_events (Coregion es) = true
has_events _ = false

-- one that has more parts than its first has a name
abbrev pub HasMore : Piece → List Piece → Type 0
HasMore p [] = ⊤
HasMore p (q ∷ qs) = name_of p.form ≡ None → ⊥

-- each stands in a column
abbrev pub AreInColumns : List Piece → Type 0
AreInColumns [] = ⊤
AreInColumns (p ∷ ps) = (p.column ≡ None → ⊥) × AreInColumns ps

-- all parts of an item: those behind the first stand in columns
abbrev pub AreParts : List Piece → Type 0
AreParts [] = ⊥
AreParts (p ∷ ps) = (is_item p.form ≡ true) × HasMore p ps × AreFormed (p ∷ ps) × AreNumbered 0 (p ∷ ps) × AreInColumns ps

-- each of the items has such parts
abbrev pub AreItems : List (List Piece) → Type 0
AreItems [] = ⊤
AreItems (x ∷ xs) = AreParts x × AreItems xs

-- the item of a reference that covers these instances
abbrev pub refer_item : List (List ℕ) → Place → Reference → WovenItem
refer_item cover place r = Refer (record { name = r.name; expression = r.expression; joins = r.joins; cover = cover; place = place })
