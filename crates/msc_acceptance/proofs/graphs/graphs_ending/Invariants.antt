use Rattle.std.specs.List.{list_any}
use Rattle.std.specs.Str.{bytes_eq}
use Rattle.std.proofs.Common.{◌≡◌, ◌++◌, ℕ, List, drop, map}
use Rattle.graph_rules.specs.GraphViews.{graphs_view}
use Rattle.msc_tree.specs.Views.{chart_view}
use Rattle.msc_acceptance.specs.GraphFaults.{graphs_ending}
use Rattle.msc_acceptance.proofs.graphs.graphs_ending.Given as goal

abbrev pub invariant-loop-chart : goal.invariant-loop-chart
invariant-loop-chart l = graphs_view l.list.items ++ graphs_ending (λ (name : List ℕ). list_any (bytes_eq name) l.referred) (map chart_view (drop l.chart-index l.charts)) ≡ graphs_ending (λ (name : List ℕ). list_any (bytes_eq name) l.referred) (map chart_view l.charts)
