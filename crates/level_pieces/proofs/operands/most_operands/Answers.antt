use Rattle.std.proofs.Common.{◌≡◌, ◌<◌, List, get_or, length, subst}
use Rattle.level_pieces.specs.ItemOperands.{operands_in}
use Rattle.level_pieces.specs.PieceViews.{piece_view}
use Rattle.level_pieces.specs.declared.pieces.Piece as code
use Rattle.level_pieces.proofs.ReadLaws.{most_step, operands_low}
use Rattle.level_pieces.proofs.operands.most_operands.Goals as goal

pub loop-part-init : goal.loop-part-init
loop-part-init c = (operands_low c.operands_of_form-most.result.now (operands_in (piece_view c.args.item.now.first).form) c.operands_of_form-most.ensures, tt)

pub loop-part-preserved : goal.loop-part-preserved
loop-part-preserved c =
    most_step (piece_view c.args.item.now.first) c.args.item.now.others.items c.loop-part.part-index c.part-item.result c.operands_of_form.result.now c.loop-part.most c.larger-most.result
    (subst (λ (ps : List code.Piece). c.loop-part.part-index < length ps) c.as_slice-part-items.ensures.value c.loop-part-test.true)
    (subst (λ (ps : List code.Piece). c.part-item.result ≡ get_or ps c.loop-part.part-index c.part-item.result) c.as_slice-part-items.ensures.value c.part-item.is) c.operands_of_form.ensures c.loop-part.invariant c.larger-most.ensures.a c.larger-most.ensures.b
