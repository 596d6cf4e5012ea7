use Rattle.std.proofs.Common.{◌≡◌, ◌+◌, ◌++◌, drop, map}
use Rattle.level_pieces.specs.PieceViews.{piece_view}
use Rattle.msc_meaning.specs.Pieces.{statements_count, statements_pieces}
use Rattle.msc_tree.specs.Statements.{statements}
use Rattle.msc_tree.specs.Views.{statement_view}
use Rattle.level_pieces.proofs.pieces.statements.Given as goal

abbrev pub invariant-loop-held : goal.invariant-loop-held
invariant-loop-held l = record {
  pieces : map piece_view l.pieces.items ++ statements_pieces l.level l.next (statements (map statement_view (drop l.held-index l.list)))
      ≡ map piece_view l.initial.pieces.items ++ statements_pieces l.level l.first (statements (map statement_view l.list));
  next : l.next + statements_count (statements (map statement_view (drop l.held-index l.list))) ≡ l.first + statements_count (statements (map statement_view l.list));
}
