use Rattle.std.proofs.Common.{◌≡◌, ◌++◌, List, ℕ, drop, map}
use Rattle.level_pieces.specs.ItemOperands.{rests_operand}
use Rattle.level_pieces.specs.PieceViews.{parts_view, piece_view}
use Rattle.msc_meaning.specs.Pieces.{operands_of}
use Rattle.level_pieces.proofs.operands.all_rests.Given as goal

abbrev pub invariant-loop-part : goal.invariant-loop-part
invariant-loop-part l = (level : List (List ℕ)) (k : ℕ) → rests_operand level k l.rests.items ++ operands_of level k (map piece_view (drop l.part-index l.item.others.items)) ≡ operands_of level k (parts_view l.item)
