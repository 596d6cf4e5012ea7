use Rattle.std.proofs.Common.{◌≡◌, ◌++◌, drop, map}
use Rattle.chart_extents.specs.Extents.{sized_charts, sized_from}
use Rattle.chart_extents.specs.ExtentViews.{sized_view}
use Rattle.msc_tree.specs.Views.{chart_view}
use Rattle.chart_extents.proofs.sized.sized_charts.Given as goal

abbrev pub invariant-loop-chart : goal.invariant-loop-chart
invariant-loop-chart l = record {
  number : l.number ≡ l.chart-index;
  made : map sized_view l.made.items ++ sized_from l.joined l.chart-index (map chart_view (drop l.chart-index l.charts)) ≡ sized_charts (map chart_view l.charts) l.joined;
}
