use Rattle.std.proofs.Common.{rules, ◌≡◌, ◌++◌, ◌∷◌, ◌∙◌, [], map}
use Rattle.level_pieces.specs.PieceViews.{piece_view}
use Rattle.level_pieces.proofs.ReadLaws.{left_step, pieces_step}
use Rattle.level_pieces.proofs.operands.next_operands.Goals as goal

pub loop-rest-preserved : goal.loop-rest-preserved
loop-rest-preserved c =
    let pushed : c.push.new.self.items ≡ c.loop-rest.left.items ++ c.in_ok-next_operand.field-0 ∷ [] = search rules in
    record {
      pieces = pieces_step c.args.level.now c.args.rests.now c.loop-rest.rest-index c.rest-item.result (map piece_view c.loop-rest.pieces.items) (map piece_view c.next_operand.new.pieces.items) c.loop-rest-test.true c.rest-item.is
          c.in_ok-next_operand.ensures.pieces ∙ c.loop-rest.invariant.pieces;
      left = λ cover k. left_step cover k c.args.rests.now c.loop-rest.rest-index c.rest-item.result c.loop-rest.left.items c.push.new.self.items c.in_ok-next_operand.field-0
          c.loop-rest-test.true c.rest-item.is pushed (c.in_ok-next_operand.ensures.rest cover k) ∙ c.loop-rest.invariant.left cover k;
    }
