use Rattle.std.proofs.Common.{◌≡◌, ◌+◌, List, ℕ, length, map}
use Rattle.level_pieces.specs.ItemOperands.{operand_lists, pieces_view, rests_operand}
use Rattle.level_pieces.specs.PieceViews.{parts_view}
use Rattle.msc_meaning.specs.Pieces.{operands_of}
use Rattle.level_pieces.proofs.operands.item_operands.Given as goal

abbrev pub invariant-loop-number : goal.invariant-loop-number
invariant-loop-number l = record {
  count : length l.lists.items ≡ l._number;
  lists : map pieces_view l.lists.items ≡ operand_lists l.names.cover (parts_view l.item) 0 (length l.lists.items);
  rests : (cover : List (List ℕ)) (k : ℕ) → rests_operand cover k l.rests.items ≡ operands_of cover (length l.lists.items + k) (parts_view l.item);
}
