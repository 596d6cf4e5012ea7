use Rattle.std.proofs.Common.{◌⊎◌, ℕ, List, drop, map}
use Rattle.chart_links.specs.SummaryViews.{summary_view}
use Rattle.chart_links.specs.Summaries.{Summary}
use Rattle.msc_base.specs.Lists.{IsAmong}
use Rattle.chart_links.proofs.tables.instance_names.Given as goal

abbrev pub invariant-loop-chart : goal.invariant-loop-chart
invariant-loop-chart l = (chart : Summary) (instance : List ℕ) → IsAmong (map summary_view l.charts) chart → IsAmong chart.instances instance → IsAmong l.known instance ⊎ IsAmong (map summary_view (drop l.chart-index l.charts)) chart
