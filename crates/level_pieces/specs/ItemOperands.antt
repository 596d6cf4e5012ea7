-- The operands of an item: each is made of that of each of its parts.
use Rattle.std.specs.Prelude.{◌≡◌, ◌≤◌, ⊤, ℕ, zero, suc, List, [], ◌∷◌, length, map, Vec}
use Rattle.std.specs.List.{flat_map}
use Rattle.std.specs.Global.{Global}
use Rattle.level_pieces.specs.PieceViews.{piece_view}
use Rattle.level_pieces.specs.declared.operands.PartRest.{PartRest}
use Rattle.level_pieces.specs.declared.pieces.LevelItem.{LevelItem}
use Rattle.level_pieces.specs.declared.pieces.Piece as code
use Rattle.level_pieces.specs.declared.pieces.PieceSide.{PieceSide}
use Rattle.level_pieces.specs.declared.pieces.PieceSide.TheVariants as setting
use Rattle.level_pieces.specs.declared.pieces.PieceSide.TheVariants.{Behind, Inside}
use Rattle.msc_meaning.specs.Levels.{operand_number}
use Rattle.msc_meaning.specs.Pieces.{Piece, operand_at, operands_of}
use Rattle.msc_tree.specs.Statements.{Form, Inline, Operands, no_operands, operands}
use Rattle.msc_tree.specs.Views.{operand_view}

abbrev pub operands_in : Form → Operands
operands_in (Inline head held) = held
operands_in _ = no_operands

-- ---- parts behind `all`

-- what stands behind `all` has these instances left of the colon
abbrev pub IsWithin : List (List ℕ) → PieceSide → Type 0
IsWithin outer (Inside names) = names.now ≡ outer
IsWithin outer (setting.InColumn name) = ⊤
IsWithin outer (Behind names) = ⊤

abbrev pub AreAllWithin : List (List ℕ) → List code.Piece → Type 0
AreAllWithin outer [] = ⊤
AreAllWithin outer (p ∷ ps) = IsWithin outer p.setting × AreAllWithin outer ps

-- each part
abbrev pub AreWithin : List (List ℕ) → LevelItem → Type 0
AreWithin outer i = IsWithin outer i.first.setting × AreAllWithin outer i.others.items

-- ---- what of the parts is still to be read

abbrev pub rest_operand : List (List ℕ) → ℕ → PartRest → List Piece
rest_operand cover k r = operand_at cover (piece_view r.piece) r.next k (operands (map operand_view r.operands.now))

abbrev pub rests_operand : List (List ℕ) → ℕ → List PartRest → List Piece
rests_operand cover k rs = flat_map (rest_operand cover k) rs

-- ---- all operands

abbrev pub pieces_view : Vec code.Piece Global → List Piece
pieces_view v = map piece_view v.items

-- each part has at most so many operands
abbrev pub HaveAtMost : ℕ → List Piece → Type 0
HaveAtMost n [] = ⊤
HaveAtMost n (p ∷ ps) = (operand_number (operands_in p.form) ≤ n) × HaveAtMost n ps

-- so many operands from the k-th on, each by its pieces
abbrev pub operand_lists : List (List ℕ) → List Piece → ℕ → ℕ → List (List Piece)
operand_lists cover parts k zero = []
operand_lists cover parts k (suc n) = operands_of cover k parts ∷ operand_lists cover parts (suc k) n

-- the lists are the operands of the item, each by its pieces, and no part has more
pub record AreOperands (cover : List (List ℕ)) (parts : List Piece) (lists : List (List Piece)) : Type 0 where
  pub are : lists ≡ operand_lists cover parts 0 (length lists)
  pub enough : HaveAtMost (length lists) parts
