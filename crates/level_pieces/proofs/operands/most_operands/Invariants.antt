use Rattle.std.proofs.Common.{map, take, ◌∷◌}
use Rattle.level_pieces.specs.ItemOperands.{HaveAtMost}
use Rattle.level_pieces.specs.PieceViews.{piece_view}
use Rattle.level_pieces.proofs.operands.most_operands.Given as goal

abbrev pub invariant-loop-part : goal.invariant-loop-part
invariant-loop-part l = HaveAtMost l.most (piece_view l.item.first ∷ map piece_view (take l.part-index l.item.others.items))
