use Rattle.std.proofs.Common.{◌++◌, ◌∷◌, ◌∙◌, [], ap, append-nil, sym, take, false, true}
use Rattle.expanded_charts.specs.TieNumbers.{numbers_of}
use Rattle.expanded_charts.proofs.TieFacts.{sought_step}
use Rattle.expanded_charts.proofs.gate_numbers.sought_numbers.Goals as goal
use Rattle.expanded_charts.proofs.gate_numbers.sought_numbers.Goals.{then-is_of+in_ok-push, else-is_of}

pub loop-index-preserved : goal.loop-index-preserved
loop-index-preserved c = elim c.if-is_of.branch [
  | then-is_of+in_ok-push w ↦ w.list-is ∙ (w.in_ok-push.ensures.ok ∙ (ap (λ l. l ++ c.at.result.now.first ∷ []) c.loop-index.invariant ∙ sym (sought_step c.args.event c.args.shown.now c.loop-index.index c.at.result.now c.at.ensures true (sym c.is_of.ensures ∙ w.if-is_of.true))))
  | else-is_of w ↦ w.list-is ∙ (c.loop-index.invariant ∙ sym (sought_step c.args.event c.args.shown.now c.loop-index.index c.at.result.now c.at.ensures false (sym c.is_of.ensures ∙ w.if-is_of.false) ∙ append-nil (numbers_of c.args.event (take c.loop-index.index c.args.shown.now))))
]
