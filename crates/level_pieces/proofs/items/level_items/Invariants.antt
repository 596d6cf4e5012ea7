use Rattle.std.proofs.Common.{◌≡◌, ◌++◌, [], drop, map, take}
use Rattle.msc_meaning.specs.LevelItems.{entries, entries_behind, with_pieces}
use Rattle.level_pieces.specs.ItemNumbers.{IsNumbering}
use Rattle.level_pieces.specs.PieceViews.{part_view, piece_view}
use Rattle.level_pieces.proofs.items.level_items.Given as goal

abbrev pub invariant-loop-piece : goal.invariant-loop-piece
invariant-loop-piece l = record {
  numbering : IsNumbering (with_pieces [] (map piece_view (take l.piece-index l.pieces))) l.numbering;
  parts : map part_view l.parts.items ++ entries_behind (with_pieces [] (map piece_view (take l.piece-index l.pieces))) (map piece_view (drop l.piece-index l.pieces)) ≡ entries (map piece_view l.pieces);
}
