use Rattle.std.proofs.Common.{◌≡◌, ◌++◌, drop, map}
use Rattle.level_weaving.specs.Exceptions.{outer_pieces}
use Rattle.level_pieces.specs.PieceViews.{piece_view}
use Rattle.level_weaving.proofs.exceptions.outer_all.Given as goal

abbrev pub invariant-loop-piece : goal.invariant-loop-piece
invariant-loop-piece l = l.places ++ outer_pieces l.names (map piece_view (drop l.piece-index l.pieces)) ≡ l.initial.places ++ outer_pieces l.names (map piece_view l.pieces)
