-- The plain pieces and parts that those of the code stand for.
use Rattle.std.specs.Prelude.{ℕ, List, [], ◌∷◌, map, Option, Some, None}
use Rattle.level_pieces.specs.declared.pieces.LevelItem.{LevelItem}
use Rattle.level_pieces.specs.declared.pieces.Part.{Part}
use Rattle.level_pieces.specs.declared.pieces.Piece.{Piece}
use Rattle.level_pieces.specs.declared.pieces.PieceSide.{PieceSide}
use Rattle.level_pieces.specs.declared.pieces.PieceSide.TheVariants.{InColumn, Behind, Inside}
use Rattle.msc_meaning.specs.LevelItems.{Entry}
use Rattle.msc_meaning.specs.Pieces as plain
use Rattle.msc_tree.specs.Views.{form_view}

abbrev pub setting_column : PieceSide → Option (List ℕ)
setting_column (InColumn name) = Some name.now
setting_column (Behind names) = None
setting_column (Inside names) = None

abbrev pub setting_leads : PieceSide → List (List ℕ)
setting_leads (InColumn name) = name.now ∷ []
setting_leads (Behind names) = names.now
setting_leads (Inside names) = names.now

abbrev pub piece_view : Piece → plain.Piece
piece_view p = record { column = setting_column p.setting; leads = setting_leads p.setting; place = p.place; form = form_view p.form.now; first = p.first }

-- the parts of an item
abbrev pub parts_view : LevelItem → List plain.Piece
parts_view i = piece_view i.first ∷ map piece_view i.others.items

abbrev pub part_view : Part → Entry
part_view p = record { item = p.item; piece = piece_view p.piece }
