use Rattle.std.proofs.Common.{◌+◌, ◌*◌, take}
use Rattle.msc_meaning.specs.Views.{table_view}
use Rattle.gate_ends.specs.FoundEnds.{AreAll}
use Rattle.gate_tables.specs.ChartTables.{Grows, HasFacts}
use Rattle.gate_ends.specs.NameViews.{names_view}
use Rattle.gate_tables.proofs.tables.+tables.Given as goal

abbrev pub decreases-add_chart : goal.decreases-add_chart
decreases-add_chart l = 3 * l.depth

abbrev pub decreases-add_body : goal.decreases-add_body
decreases-add_body l = 3 * l.depth + 2

abbrev pub decreases-add_charts : goal.decreases-add_charts
decreases-add_charts l = 3 * l.depth + 1

abbrev pub invariant-add_charts-loop-name : goal.invariant-add_charts-loop-name
invariant-add_charts-loop-name l = record {
  grows : Grows (table_view l.table.charts.now) l.table.depth l.initial.known l.known;
  has : AreAll (HasFacts l.known) (names_view (take l.name-index l.names));
}
