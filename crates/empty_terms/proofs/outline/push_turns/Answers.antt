use Rattle.std.proofs.Common.{◌∙◌, ◌++◌, ◌∷◌, [], ap, arith}
use Rattle.chart_term.specs.NormalForms.{begun}
use Rattle.chart_term.proofs.Turns.{begun-length}
use Rattle.empty_terms.proofs.Numbering.{pushed, take_all}
use Rattle.empty_terms.proofs.outline.push_turns.Goals as goal

pub loop-index-preserved : goal.loop-index-preserved
loop-index-preserved c = pushed _ _ _ _ c.loop-index.index _ c.term_at.ensures c.loop-index.invariant (c.in_ok-push.ensures.ok ∙ ap (λ x. c.loop-index.terms ++ x ∷ []) c.in_ok-copy.ensures)

pub returns : goal.returns
returns c =
    let xs = begun c.args.parts.now in
    c.loop-index.invariant ∙ ap (λ l. c.args.terms.now ++ l) (take_all xs c.loop-index.index (omega (arith, c.loop-index-test.false, c.len-index-end.ensures, begun-length c.args.parts.now c.requires)))
