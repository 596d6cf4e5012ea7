use Rattle.std.specs.List.{flat_map}
use Rattle.std.proofs.Common.{◌≡◌, ◌++◌, drop, map}
use Rattle.graph_rules.specs.GraphViews.{graphs_view}
use Rattle.msc_tree.specs.Views.{chart_view}
use Rattle.msc_acceptance.specs.GraphFaults.{charts_graphs}
use Rattle.msc_acceptance.proofs.graphs.charts_graphs.Given as goal

abbrev pub invariant-loop-chart : goal.invariant-loop-chart
invariant-loop-chart l = graphs_view l.list.items ++ charts_graphs (map chart_view (drop l.chart-index l.charts)) ≡ charts_graphs (map chart_view l.charts)
