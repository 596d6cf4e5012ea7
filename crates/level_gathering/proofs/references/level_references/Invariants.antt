use Rattle.std.proofs.Common.{◌≡◌, ◌++◌, drop, map}
use Rattle.level_gathering.specs.Gathered.{references_of}
use Rattle.level_gathering.specs.ReferenceViews.{references_view}
use Rattle.level_pieces.specs.PieceViews.{piece_view}
use Rattle.level_gathering.proofs.references.level_references.Given as goal

abbrev pub invariant-loop-piece : goal.invariant-loop-piece
invariant-loop-piece l = references_view l.list ++ references_of (map piece_view (drop l.piece-index l.pieces)) ≡ references_of (map piece_view l.pieces)
