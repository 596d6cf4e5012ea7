use Rattle.std.proofs.Common.{◌+◌, map}
use Rattle.level_pieces.specs.ItemOperands.{pieces_view}
use Rattle.level_pieces.specs.PieceViews.{parts_view, piece_view}
use Rattle.level_pieces.proofs.Sizes.{lists_size, pieces_size}
use Rattle.shared_parts.specs.Noting.{ItemBreaks, noted}
use Rattle.shared_parts.specs.PartRules.{BreaksPartRule}
use Rattle.shared_parts.specs.declared.faults.PartRule.{PartRule}
use Rattle.shared_parts.proofs.Walked.{IsWalked}
use Rattle.shared_parts.proofs.levels.+levels.Given as goal

abbrev pub decreases-note_level : goal.decreases-note_level
decreases-note_level l = pieces_size (map piece_view l.pieces.now) + pieces_size (map piece_view l.pieces.now) + pieces_size (map piece_view l.pieces.now) + pieces_size (map piece_view l.pieces.now) + 3

abbrev pub decreases-note_items : goal.decreases-note_items
decreases-note_items l = lists_size (map parts_view l.items.now) + lists_size (map parts_view l.items.now) + lists_size (map parts_view l.items.now) + lists_size (map parts_view l.items.now) + 2

abbrev pub decreases-note_item : goal.decreases-note_item
decreases-note_item l = pieces_size (parts_view l.item.now) + pieces_size (parts_view l.item.now) + pieces_size (parts_view l.item.now) + pieces_size (parts_view l.item.now) + 1

abbrev pub decreases-note_levels : goal.decreases-note_levels
decreases-note_levels l = lists_size (map pieces_view l.lists.now) + lists_size (map pieces_view l.lists.now) + lists_size (map pieces_view l.lists.now) + lists_size (map pieces_view l.lists.now) + 4

abbrev pub invariant-note_items-loop-item : goal.invariant-note_items-loop-item
invariant-note_items-loop-item l = (rule : PartRule) → IsWalked parts_view (ItemBreaks rule l.level) l.items l.item-index (noted rule l.initial.places) (noted rule l.places)

abbrev pub invariant-note_levels-loop-pieces : goal.invariant-note_levels-loop-pieces
invariant-note_levels-loop-pieces l = (rule : PartRule) → IsWalked pieces_view (BreaksPartRule rule l.cover) l.lists l.pieces-index (noted rule l.initial.places) (noted rule l.places)
