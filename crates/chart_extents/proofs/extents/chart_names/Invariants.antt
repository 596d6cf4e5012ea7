use Rattle.std.proofs.Common.{◌≡◌, [], drop, map, fold}
use Rattle.chart_extents.specs.Capped.{names_of}
use Rattle.chart_extents.specs.ExtentViews.{sized_view}
use Rattle.msc_base.specs.NameTables.{with_name}
use Rattle.chart_extents.proofs.extents.chart_names.Given as goal

abbrev pub invariant-loop-chart : goal.invariant-loop-chart
invariant-loop-chart l = fold with_name l.names (names_of (map sized_view (drop l.chart-index l.charts))) ≡ fold with_name [] (names_of (map sized_view l.charts))
