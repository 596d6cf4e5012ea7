use Rattle.std.proofs.Common.{◌≡◌, ◌++◌, List, ℕ, suc, drop, map}
use Rattle.level_pieces.specs.ItemOperands.{rests_operand}
use Rattle.level_pieces.specs.PieceViews.{piece_view}
use Rattle.level_pieces.proofs.operands.next_operands.Given as goal

abbrev pub invariant-loop-rest : goal.invariant-loop-rest
invariant-loop-rest l = record {
  pieces : map piece_view l.pieces.items ++ rests_operand l.level 0 (drop l.rest-index l.rests) ≡ rests_operand l.level 0 l.rests;
  left : (cover : List (List ℕ)) (k : ℕ) → rests_operand cover k l.left.items ++ rests_operand cover (suc k) (drop l.rest-index l.rests) ≡ rests_operand cover (suc k) l.rests;
}
