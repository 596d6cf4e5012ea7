use Rattle.std.proofs.Common.{◌≡◌, ◌++◌, drop, map}
use Rattle.chart_links.specs.Summaries.{summary_of}
use Rattle.chart_links.specs.SummaryViews.{summary_view}
use Rattle.msc_tree.specs.Views.{chart_view}
use Rattle.chart_links.proofs.summary.chart_summaries.Given as goal

abbrev pub invariant-loop-chart : goal.invariant-loop-chart
invariant-loop-chart l = record {
  number : l.number ≡ l.chart-index;
  made : map summary_view l.made.items ++ map summary_of (map chart_view (drop l.chart-index l.charts)) ≡ map summary_of (map chart_view l.charts);
}
