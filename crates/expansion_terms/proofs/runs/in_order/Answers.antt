use Rattle.std.proofs.Common.{◌∙◌, ◌++◌, ◌∷◌, [], ◌-◌, ap, sym, arith}
use Rattle.chart_term.specs.Terms.{Tree}
use Rattle.expansion_terms.specs.ExceptionRuns.{turned}
use Rattle.expansion_terms.proofs.Dropped.{drop_less}
use Rattle.expansion_terms.proofs.runs.in_order.Goals as goal

pub loop-index-preserved : goal.loop-index-preserved
loop-index-preserved c = record {
  within = omega (arith, c.loop-index.invariant.within);
  are = c.in_ok-push.ensures.ok
      ∙ (ap (λ (x : Tree). c.loop-index.parts ++ x ∷ []) c.in_ok-term.ensures
      ∙ (ap (λ xs. xs ++ c.at.result.now ∷ []) c.loop-index.invariant.are
      ∙ sym (ap turned (drop_less c.args.fronts.now (c.loop-index.index - 1) c.loop-index.index c.at.result.now c.at.ensures (omega arith)))));
}
