use Rattle.std.proofs.Common.{◌+◌, map, take}
use Rattle.level_pieces.specs.ItemOperands.{pieces_view}
use Rattle.level_pieces.specs.PieceViews.{parts_view, piece_view}
use Rattle.level_pieces.proofs.Sizes.{lists_size, pieces_size}
use Rattle.level_weaving.specs.Answers.{AreWovenLevels, ItemsCross, OneCrosses}
use Rattle.level_weaving.proofs.GatherLaws.{IsGathered}
use Rattle.msc_meaning.specs.Bodies.{bodies, items}
use Rattle.msc_meaning.specs.Levels.{AreWovenItems}
use Rattle.level_weaving.specs.LonelyItems.{ItemsLackPartner, OneLacksPartner}
use Rattle.msc_meaning.specs.Views.{body_view, item_view}
use Rattle.level_weaving.proofs.levels.+levels.Given as goal

abbrev pub decreases-woven_level : goal.decreases-woven_level
decreases-woven_level l = pieces_size (map piece_view l.pieces.now) + pieces_size (map piece_view l.pieces.now) + pieces_size (map piece_view l.pieces.now) + pieces_size (map piece_view l.pieces.now) + 3

abbrev pub decreases-woven_items : goal.decreases-woven_items
decreases-woven_items l = lists_size (map parts_view l.items.now) + lists_size (map parts_view l.items.now) + lists_size (map parts_view l.items.now) + lists_size (map parts_view l.items.now) + 2

abbrev pub decreases-woven_item : goal.decreases-woven_item
decreases-woven_item l = pieces_size (parts_view l.item.now) + pieces_size (parts_view l.item.now) + pieces_size (parts_view l.item.now) + pieces_size (parts_view l.item.now) + 1

abbrev pub decreases-woven_levels : goal.decreases-woven_levels
decreases-woven_levels l = lists_size (map pieces_view l.lists.now) + lists_size (map pieces_view l.lists.now) + lists_size (map pieces_view l.lists.now) + lists_size (map pieces_view l.lists.now) + 4

abbrev pub invariant-woven_items-loop-number : goal.invariant-woven_items-loop-number
invariant-woven_items-loop-number l =
    IsGathered (λ is. AreWovenItems l.level (map parts_view l.items) (take l.number-index l.order) (items (map item_view is))) (λ is. ItemsLackPartner (items (map item_view is)))
    (ItemsCross l.level (map parts_view l.items) (take l.number-index l.order)) l.gathered

abbrev pub invariant-woven_levels-loop-pieces : goal.invariant-woven_levels-loop-pieces
invariant-woven_levels-loop-pieces l =
    IsGathered (λ bs. AreWovenLevels l.cover (map pieces_view (take l.pieces-index l.lists)) (map body_view bs)) (λ bs. OneLacksPartner (bodies (map body_view bs)))
    (OneCrosses l.cover (map pieces_view (take l.pieces-index l.lists))) l.gathered
