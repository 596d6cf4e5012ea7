use Rattle.std.proofs.Common.{◌≡◌, ◌<◌, ◌≤◌, ◌+◌, ℕ, None, get_or, map, drop, refl, sym, subst, ◌∙◌, arith}
use Rattle.std.proofs.lemmas.Bool.{ltb-true, ltb-false}
use Rattle.msc_base.proofs.Narrowing.{Narrows}
use Rattle.msc_base.specs.declared.limits.TheConstants.Limits.{TOTAL_SIZE}
use Rattle.chart_extents.specs.ExtentRules.{AreTooLarge, PassesTotal}
use Rattle.chart_extents.specs.ExtentViews.{sized_view}
use Rattle.chart_extents.specs.Extents.{nothing}
use Rattle.chart_extents.specs.declared.extent.Extent.{Extent}
use Rattle.chart_extents.proofs.LimitFacts.{total_end, total_passed, total_step}
use Rattle.chart_extents.proofs.limits.large_total.Goals as goal

pub returns-then-is_above : goal.returns-then-is_above
returns-then-is_above c =
    let list = c.args.charts.now in
    let values = c.args.values.now in
    let i = c.loop-index.index in
    let value : Extent = get_or values i nothing in
    let above : TOTAL_SIZE < c.saturating_add-total.result = ltb-true _ _ (sym c.is_above.ensures ∙ c.if-is_above.true) in
    let over : TOTAL_SIZE < c.loop-index.sum + value.size = omega (arith, above, c.saturating_add-total.ensures) in
    total_passed list values c.requires.different c.requires.kept (AreTooLarge (map sized_view list)) i c.loop-index.sum c.index-charts-index.result value c.loop-index-test.true c.index-charts-index.is refl c.loop-index.invariant.small over c.loop-index.invariant.rest

pub loop-index-preserved : goal.loop-index-preserved
loop-index-preserved c =
    let list = c.args.charts.now in
    let all = map sized_view list in
    let values = c.args.values.now in
    let i = c.loop-index.index in
    let value : Extent = get_or values i nothing in
    let below : c.saturating_add-total.result ≤ TOTAL_SIZE = ltb-false _ _ (sym c.is_above.ensures ∙ c.if-is_above.false) in
    let exact : c.loop-index.sum + value.size ≡ c.saturating_add-total.result = omega (arith, below, c.saturating_add-total.ensures) in
    record {
      small = below;
      rest = subst (λ (n : ℕ). Narrows (AreTooLarge all) (PassesTotal all n (map sized_view (drop (i + 1) list))) None) exact
          (total_step list values c.requires.different c.requires.kept (AreTooLarge all) i c.loop-index.sum c.index-charts-index.result value c.loop-index-test.true c.index-charts-index.is refl (omega (arith, below, exact)) c.loop-index.invariant.rest);
    }

pub returns : goal.returns
returns c =
    let list = c.args.charts.now in
    total_end list c.args.values.now c.requires.different c.requires.kept (AreTooLarge (map sized_view list)) c.loop-index.index c.loop-index.sum c.loop-index-test.false c.loop-index.invariant.rest
