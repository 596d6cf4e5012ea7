use Rattle.std.proofs.Common.{◌∙◌, ◌++◌, ◌∷◌, [], ap, sym, take, append-nil}
use Rattle.chart_term.specs.NormalForms.{begun}
use Rattle.chart_term.specs.Rows.{part_of}
use Rattle.term_permission.proofs.Joins.{begun-next}
use Rattle.term_permission.proofs.row_end.RowEnd.into_turns.Goals.{in-Gap, in-Turn+in_ok-copy-in-Turn+in_ok-push-in-Turn}
use Rattle.term_permission.proofs.row_end.RowEnd.into_turns.Goals as goal

pub loop-index-preserved : goal.loop-index-preserved
loop-index-preserved c =
    let ps = c.self.inside.parts in
    let next = begun-next ps c.loop-index.index (part_of c.at.result.now) c.at.ensures in
    elim c.match-at.branch [
      | in-Gap w ↦ w.turns-is ∙ (c.loop-index.invariant ∙ sym (next ∙ (ap (λ p. begun (take c.loop-index.index ps) ++ begun (part_of p ∷ [])) w.in-Gap.is ∙ append-nil (begun (take c.loop-index.index ps)))))
      | in-Turn+in_ok-copy-in-Turn+in_ok-push-in-Turn w ↦
          w.turns-is ∙ (w.in_ok-push-in-Turn.ensures.ok ∙ ((λ j. c.loop-index.invariant j ++ w.in_ok-copy-in-Turn.ensures j ∷ []) ∙ sym (next ∙ ap (λ p. begun (take c.loop-index.index ps) ++ begun (part_of p ∷ [])) w.in-Turn.is)))
    ]
