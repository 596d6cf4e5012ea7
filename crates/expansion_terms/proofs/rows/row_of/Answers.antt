use Rattle.std.proofs.Common.{◌≡◌, ◌∙◌, ◌-◌, ap, sym, Some, arith}
use Rattle.std.specs.List.{slice_get}
use Rattle.chart_term.specs.Terms.{Tree}
use Rattle.expansion_terms.proofs.Dropped.{item_at}
use Rattle.expansion_terms.proofs.RowSteps.{row_step}
use Rattle.expansion_terms.proofs.rows.row_of.Goals as goal

pub loop-index-preserved : goal.loop-index-preserved
loop-index-preserved c =
    let at : slice_get c.args.parts.now (c.loop-index.index - 1) ≡ Some c.index-parts-index.result = item_at c.args.parts.now (c.loop-index.index - 1) c.index-parts-index.result (omega (arith, c.loop-index.invariant.within)) c.index-parts-index.is in
    let term_at : slice_get c.args.terms.now (c.loop-index.index - 1) ≡ Some c.in_ok-front.front = c.at.ensures ∙ ap (λ (x : Tree). Some x) (sym c.in_ok-front.ensures) in
    record {
      within = omega (arith, c.loop-index.invariant.within);
      part = row_step c.args.parts.now c.args.terms.now (c.loop-index.index - 1) c.loop-index.index c.loop-index.run c.in_ok-run-2.run' c.index-parts-index.result c.in_ok-front.front c.is_exception.result at term_at (omega arith) c.is_exception.ensures c.loop-index.invariant.part
          c.in_ok-run-2.ensures;
    }
