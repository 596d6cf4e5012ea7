use Rattle.std.proofs.Common.{◌<◌, get_or, map, nat_lt, refl}
use Rattle.msc_base.specs.declared.limits.TheConstants.Limits.{EXPANDED_SIZE}
use Rattle.chart_extents.specs.ExtentRules.{IsTooLarge}
use Rattle.chart_extents.specs.ExtentViews.{sized_view}
use Rattle.chart_extents.specs.Extents.{nothing}
use Rattle.chart_extents.proofs.LimitFacts.{large_agrees, limit_end, limit_step}
use Rattle.chart_extents.proofs.limits.large_chart.Goals as goal

pub loop-index-preserved : goal.loop-index-preserved
loop-index-preserved c =
    let list = c.args.charts.now in
    let values = c.args.values.now in
    let i = c.loop-index.index in
    limit_step list values c.requires.different c.requires.kept (λ e. EXPANDED_SIZE < e.size) (λ e. nat_lt EXPANDED_SIZE e.size) large_agrees (IsTooLarge (map sized_view list)) i c.index-charts-index.result (get_or values i nothing) c.is_large.result c.loop-index.best c.earlier_if-best.result
    c.loop-index-test.true c.index-charts-index.is refl c.is_large.ensures c.earlier_if-best.ensures c.loop-index.invariant

pub returns : goal.returns
returns c =
    let list = c.args.charts.now in
    limit_end list c.args.values.now c.requires.different c.requires.kept (λ e. EXPANDED_SIZE < e.size) (IsTooLarge (map sized_view list)) c.loop-index.index c.loop-index.best c.loop-index-test.false c.loop-index.invariant
