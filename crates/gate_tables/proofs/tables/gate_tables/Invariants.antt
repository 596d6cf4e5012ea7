use Rattle.std.proofs.Common.{take}
use Rattle.msc_meaning.specs.Views.{table_view}
use Rattle.gate_ends.specs.FoundEnds.{AreAll}
use Rattle.gate_tables.specs.ChartTables.{AreSomeOf, HasFacts}
use Rattle.gate_tables.proofs.ChartTables.{chart_names}
use Rattle.gate_tables.proofs.tables.gate_tables.Given as goal

abbrev pub invariant-loop-chart : goal.invariant-loop-chart
invariant-loop-chart l = record {
  right : AreSomeOf (table_view l.charts) l.depth l.known;
  has : AreAll (HasFacts l.known) (chart_names (take l.chart-index l.charts));
}
