use Rattle.std.proofs.Common.{◌≡◌, ◌+◌, ◌*◌, drop}
use Rattle.gate_ends.specs.NameViews.{names_view}
use Rattle.msc_meaning.specs.Views.{table_view}
use Rattle.chart_lists.specs.ListedNames.{AreSeen, listed_view}
use Rattle.chart_lists.specs.Listing.{instances_behind, listed_to}
use Rattle.chart_lists.proofs.drawn_instances.+listed.Given as goal

-- a chart leads to names, and a name to a chart less deep
abbrev pub decreases-add_chart : goal.decreases-add_chart
decreases-add_chart l = 3 * l.depth + 1

abbrev pub decreases-add_charts : goal.decreases-add_charts
decreases-add_charts l = 3 * l.depth

abbrev pub decreases-add_named : goal.decreases-add_named
decreases-add_named l = 3 * l.depth + 2

abbrev pub invariant-add_charts-loop-name : goal.invariant-add_charts-loop-name
invariant-add_charts-loop-name l = record {
  made : instances_behind (listed_to (table_view l.table.charts.now) l.depth) (listed_view l.list) (names_view (drop l.name-index l.names)) ≡ instances_behind (listed_to (table_view l.table.charts.now) l.depth) (listed_view l.initial.list) (names_view l.names);
  seen : AreSeen l.list;
}
