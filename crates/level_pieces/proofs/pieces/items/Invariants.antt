use Rattle.std.proofs.Common.{◌≡◌, ◌+◌, ◌++◌, drop, map}
use Rattle.level_pieces.specs.PieceViews.{piece_view, setting_column, setting_leads}
use Rattle.msc_meaning.specs.Pieces.{items_count, items_pieces}
use Rattle.msc_tree.specs.Statements.{items}
use Rattle.msc_tree.specs.Views.{item_view}
use Rattle.level_pieces.proofs.pieces.items.Given as goal

abbrev pub invariant-loop-held : goal.invariant-loop-held
invariant-loop-held l = record {
  pieces : map piece_view l.pieces.items ++ items_pieces (setting_column l.setting) (setting_leads l.setting) l.next (items (map item_view (drop l.held-index l.list)))
      ≡ map piece_view l.initial.pieces.items ++ items_pieces (setting_column l.setting) (setting_leads l.setting) l.first (items (map item_view l.list));
  next : l.next + items_count (items (map item_view (drop l.held-index l.list))) ≡ l.first + items_count (items (map item_view l.list));
}
