-- What each of the pieces of a level has, each part of its items has.
use Rattle.std.proofs.Common.{◌≡◌, ℕ, zero, suc, Bool, true, false, cond, List, [], ◌∷◌, ◌++◌, Some, slice_get, subst}
use Rattle.msc_meaning.specs.LevelItems.{is_item, is_part_of, level_items, with_piece, with_pieces}
use Rattle.msc_meaning.specs.Pieces.{Piece}
use Rattle.level_pieces.proofs.PieceTexts.{pieces_behind}
use Rattle.level_pieces.specs.FormedPieces.{EachPiece}

module _ (P : Piece → Type 0) where
  abbrev pub EachOfAll : List (List Piece) → Type 0
  EachOfAll [] = Unit {0}
  EachOfAll (x ∷ xs) = EachPiece P x × EachOfAll xs

  with_each : (xs : List (List Piece)) (p : Piece) → EachOfAll xs → P p → EachOfAll (with_piece xs p)
  with_each [] p h here = ((here, tt), tt)
  with_each (x ∷ xs) p h here = by (is_part_of p x) (with_each xs p h.1 here)
    where
      by : (b : Bool) → EachOfAll (with_piece xs p) → EachOfAll (cond b ((x ++ p ∷ []) ∷ xs) (x ∷ with_piece xs p))
      by true rest = (pieces_behind P x (p ∷ []) h.0 (here, tt), h.1)
      by false rest = (h.0, rest)

  from_each : (xs : List (List Piece)) (ps : List Piece) → EachOfAll xs → EachPiece P ps → EachOfAll (with_pieces xs ps)
  from_each xs [] h g = h
  from_each xs (p ∷ ps) h g = by (is_item p.form) (from_each (with_piece xs p) ps (with_each xs p h g.0) g.1) (from_each xs ps h g.1)
    where
      by : (b : Bool) → EachOfAll (with_pieces (with_piece xs p) ps) → EachOfAll (with_pieces xs ps) → EachOfAll (with_pieces (cond b (with_piece xs p) xs) ps)
      by true one other = one
      by false one other = other

  pub level_each : (ps : List Piece) → EachPiece P ps → EachOfAll (level_items ps)
  level_each ps h = from_each [] ps tt h

  pub parts_each : (xs : List (List Piece)) (x : ℕ) (parts : List Piece) → EachOfAll xs → slice_get xs x ≡ Some parts → EachPiece P parts
  parts_each [] x parts h at = cc
  parts_each (y ∷ xs) zero parts h at = let same : y ≡ parts = cc in subst (EachPiece P) same h.0
  parts_each (y ∷ xs) (suc x) parts h at = parts_each xs x parts h.1 at
