use Rattle.std.proofs.Common.{◌+◌, map, take}
use Rattle.level_pieces.specs.ItemOperands.{pieces_view}
use Rattle.level_pieces.specs.PieceViews.{parts_view, piece_view}
use Rattle.level_pieces.proofs.Sizes.{lists_size, pieces_size}
use Rattle.level_gathering.specs.Gathered.{AreGatheredItems}
use Rattle.level_gathering.specs.Noting.{AreGatheredLevels, IsNoted}
use Rattle.level_gathering.specs.ReferenceViews.{lists_view}
use Rattle.msc_meaning.specs.Bodies.{items}
use Rattle.msc_meaning.specs.Views.{body_view, item_view}
use Rattle.level_gathering.proofs.gathering.+levels.Given as goal

abbrev pub decreases-gathered_level : goal.decreases-gathered_level
decreases-gathered_level l = pieces_size (map piece_view l.pieces.now) + pieces_size (map piece_view l.pieces.now) + pieces_size (map piece_view l.pieces.now) + pieces_size (map piece_view l.pieces.now) + 3

abbrev pub decreases-gathered_items : goal.decreases-gathered_items
decreases-gathered_items l = lists_size (map parts_view l.items.now) + lists_size (map parts_view l.items.now) + lists_size (map parts_view l.items.now) + lists_size (map parts_view l.items.now) + 2

abbrev pub decreases-gathered_item : goal.decreases-gathered_item
decreases-gathered_item l = pieces_size (parts_view l.item.now) + pieces_size (parts_view l.item.now) + pieces_size (parts_view l.item.now) + pieces_size (parts_view l.item.now) + 1

abbrev pub decreases-gathered_levels : goal.decreases-gathered_levels
decreases-gathered_levels l = lists_size (map pieces_view l.lists.now) + lists_size (map pieces_view l.lists.now) + lists_size (map pieces_view l.lists.now) + lists_size (map pieces_view l.lists.now) + 4

abbrev pub invariant-gathered_items-loop-item : goal.invariant-gathered_items-loop-item
invariant-gathered_items-loop-item l = IsNoted (AreGatheredItems l.level (map parts_view (take l.item-index l.items)) (items (map item_view l.held.items))) (lists_view l.initial.references) (lists_view l.references)

abbrev pub invariant-gathered_levels-loop-pieces : goal.invariant-gathered_levels-loop-pieces
invariant-gathered_levels-loop-pieces l = IsNoted (AreGatheredLevels l.cover (map pieces_view (take l.pieces-index l.lists)) (map body_view l.bodies.items)) (lists_view l.initial.references) (lists_view l.references)
