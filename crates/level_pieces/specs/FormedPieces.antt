-- The text of a piece; and pieces whose text is well formed.
use Rattle.std.specs.Prelude.{⊤, List, [], ◌∷◌}
use Rattle.chart_text.specs.Texts.{Passage, Whole, behind, item_text}
use Rattle.chart_text.specs.WellFormed.{AreWellFormed}
use Rattle.msc_meaning.specs.Pieces.{Piece}
use Rattle.msc_tree.specs.Statements.{placed}

-- as it stands behind a colon, with the instances in whose columns the piece stands left of it
abbrev pub piece_text : Piece → List Passage
piece_text p = item_text (record { depth = 0; side = behind p.leads; scope = Whole }) (placed p.place p.form)

-- each piece has it
abbrev pub EachPiece : (Piece → Type 0) → List Piece → Type 0
EachPiece P [] = ⊤
EachPiece P (p ∷ ps) = P p × EachPiece P ps

abbrev pub IsFormedPiece : Piece → Type 0
IsFormedPiece p = AreWellFormed (piece_text p)

abbrev pub AreFormed : List Piece → Type 0
AreFormed ps = EachPiece IsFormedPiece ps
