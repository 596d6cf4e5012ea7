use Rattle.std.proofs.Common.{map, take}
use Rattle.level_gathering.specs.GatheredCharts.{AreGathered}
use Rattle.level_gathering.specs.ReferenceViews.{charts_view}
use Rattle.msc_meaning.specs.Views.{table_view}
use Rattle.msc_tree.specs.Views.{chart_view}
use Rattle.level_gathering.proofs.charts.gathered_charts.Given as goal

abbrev pub invariant-loop-number : goal.invariant-loop-number
invariant-loop-number l = AreGathered (map chart_view (take l.number l.charts)) (table_view l.gathered.entries.items) (charts_view l.gathered.references.items)
