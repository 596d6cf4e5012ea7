use Rattle.std.proofs.Common.{map, take}
use Rattle.msc_meaning.specs.Views.{entry_view, table_view}
use Rattle.chart_cycles.specs.Cycles.{TellCycles}
use Rattle.chart_cycles.proofs.cycles.cyclic_charts.Given as goal

abbrev pub invariant-loop-index : goal.invariant-loop-index
invariant-loop-index l = TellCycles (table_view l.charts) l.depth (map entry_view (take l.index l.charts)) l.told.items
