use Rattle.std.proofs.Common.{◌+◌, ℕ, get_or, map, ap, ◌∙◌}
use Rattle.chart_links.specs.Summaries.{summary_of}
use Rattle.chart_links.proofs.SummaryFacts.{own_names, summary_more}
use Rattle.msc_tree.specs.Views.{chart_view}
use Rattle.chart_links.proofs.summary.chart_summaries.Goals as goal

pub chart_summary-requires-clause-names : goal.chart_summary-requires-clause-names
chart_summary-requires-clause-names c =
    let lists = c.args.lists.now in
    let names = c.index-lists-number.result in
    own_names c.args.charts.now lists c.loop-chart.chart-index c.chart-item.result names names c.requires c.loop-chart-test.true c.chart-item.is
    (c.index-lists-number.is ∙ ap (λ (n : ℕ). get_or lists n names) c.loop-chart.invariant.number)

pub loop-chart-preserved : goal.loop-chart-preserved
loop-chart-preserved c = record {
  number = ap (λ (n : ℕ). n + 1) c.loop-chart.invariant.number;
  made = summary_more c.args.charts.now c.loop-chart.chart-index c.chart-item.result c.loop-chart.made.items c.push.new.self.items _ (map summary_of (map chart_view c.args.charts.now)) c.loop-chart-test.true c.chart-item.is
      c.in_ok-push.ensures.items c.in_ok-chart_summary.ensures c.loop-chart.invariant.made;
}
