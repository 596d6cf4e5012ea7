use Rattle.std.proofs.Common.{drop, map}
use Rattle.msc_meaning.specs.Views.{entry_view}
use Rattle.chart_cycles.specs.Written.{AreWritten}
use Rattle.chart_cycles.proofs.cycles.are_written.Given as goal

abbrev pub invariant-loop-chart : goal.invariant-loop-chart
invariant-loop-chart l = AreWritten (map entry_view (drop l.chart-index l.charts)) → AreWritten (map entry_view l.charts)
