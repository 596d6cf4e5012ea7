use Rattle.msc_meaning.specs.Views.{table_view}
use Rattle.gate_tables.specs.ChartTables.{AreSomeOf}
use Rattle.gate_tables.proofs.tables.add_numbers.Given as goal

abbrev pub invariant-loop-number : goal.invariant-loop-number
invariant-loop-number l = AreSomeOf (table_view l.table.charts.now) l.table.depth l.known
