use Rattle.std.proofs.Common.{◌≡◌, ◌+◌, ℕ, get_or, map, slice_index_or, ap, ◌∙◌}
use Rattle.chart_extents.specs.Extents.{sized_charts, sized_of}
use Rattle.chart_extents.specs.ExtentViews.{sized_view}
use Rattle.chart_extents.proofs.SizedFacts.{own_summary, sized_more}
use Rattle.msc_tree.specs.Views.{chart_view}
use Rattle.chart_extents.proofs.sized.sized_charts.Goals as goal

pub sized_chart-requires-clause-summary : goal.sized_chart-requires-clause-summary
sized_chart-requires-clause-summary c =
    let summaries = c.args.summaries.now in
    let summary = c.index-summaries-number.result in
    own_summary c.args.charts.now summaries c.loop-chart.chart-index c.chart-item.result summary summary c.requires c.loop-chart-test.true c.chart-item.is (c.index-summaries-number.is ∙ ap (λ (n : ℕ). get_or summaries n summary) c.loop-chart.invariant.number)

pub loop-chart-preserved : goal.loop-chart-preserved
loop-chart-preserved c =
    let joined = c.args.joined.now in
    let chart = c.chart-item.result in
    let more : c.joined_at-more.result ≡ slice_index_or joined c.loop-chart.chart-index 0 = c.joined_at-more.ensures ∙ ap (λ (n : ℕ). slice_index_or joined n 0) c.loop-chart.invariant.number in
    let view : sized_view c.in_ok-sized.sized ≡ sized_of (chart_view chart) (slice_index_or joined c.loop-chart.chart-index 0) = c.in_ok-sized.ensures ∙ ap (sized_of (chart_view chart)) more in
    record {
      number = ap (λ (n : ℕ). n + 1) c.loop-chart.invariant.number;
      made = sized_more c.args.charts.now joined c.loop-chart.chart-index chart c.loop-chart.made.items c.push.new.self.items c.in_ok-sized.sized (sized_charts (map chart_view c.args.charts.now) joined) c.loop-chart-test.true
          c.chart-item.is c.in_ok-push.ensures.items view c.loop-chart.invariant.made;
    }
