use Rattle.std.proofs.Common.{rules, ◌≡◌, ◌++◌, ◌∷◌, ◌∙◌, ◌<◌, [], List, get_or, length, subst}
use Rattle.level_pieces.specs.declared.pieces.Piece as code
use Rattle.level_pieces.proofs.ReadLaws.{rests_step, within_at}
use Rattle.level_pieces.proofs.operands.all_rests.Goals as goal

pub whole-requires-in-loop-part : goal.whole-requires-in-loop-part
whole-requires-in-loop-part c =
    within_at c.args.names.now.outer c.args.item.now.others.items c.loop-part.part-index c.part-item.result c.requires.1
    (subst (λ (ps : List code.Piece). c.loop-part.part-index < length ps) c.as_slice-part-items.ensures.value c.loop-part-test.true)
    (subst (λ (ps : List code.Piece). c.part-item.result ≡ get_or ps c.loop-part.part-index c.part-item.result) c.as_slice-part-items.ensures.value c.part-item.is)

pub loop-part-preserved : goal.loop-part-preserved
loop-part-preserved c = λ level k.
    let pushed : c.push-in-loop-part.new.self.items ≡ c.loop-part.rests.items ++ c.whole-in-loop-part.result ∷ [] = search rules in
    rests_step level k c.args.item.now.others.items c.loop-part.part-index c.part-item.result c.loop-part.rests.items c.push-in-loop-part.new.self.items c.whole-in-loop-part.result
    (subst (λ (ps : List code.Piece). c.loop-part.part-index < length ps) c.as_slice-part-items.ensures.value c.loop-part-test.true)
    (subst (λ (ps : List code.Piece). c.part-item.result ≡ get_or ps c.loop-part.part-index c.part-item.result) c.as_slice-part-items.ensures.value c.part-item.is) pushed (c.whole-in-loop-part.ensures level k)
    ∙ c.loop-part.invariant level k
