use Rattle.std.proofs.Common.{drop, map}
use Rattle.level_pieces.specs.PieceViews.{piece_view}
use Rattle.shared_parts.specs.Sharing.{AllCover, OneCoversOthers}
use Rattle.shared_parts.proofs.sharing.all_cover.Given as goal

abbrev pub invariant-loop-part : goal.invariant-loop-part
invariant-loop-part l = record {
  all : AllCover l.level l.cover (map piece_view (drop l.part-index l.others)) → AllCover l.level l.cover (map piece_view l.others);
  one : OneCoversOthers l.level l.cover (map piece_view (drop l.part-index l.others)) → OneCoversOthers l.level l.cover (map piece_view l.others);
}
