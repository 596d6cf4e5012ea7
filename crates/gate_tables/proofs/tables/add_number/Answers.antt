use Rattle.std.proofs.Common.{List, ℕ, sym, subst}
use Rattle.msc_meaning.specs.Views.{table_view}
use Rattle.gate_ends.specs.FoundEnds.{AreAll, GoesTo}
use Rattle.gate_tables.proofs.ChartTables.{chart_numbered}
use Rattle.gate_tables.proofs.tables.add_number.Goals as goal

pub add_chart-requires-clause-deep : goal.add_chart-requires-clause-deep
add_chart-requires-clause-deep c =
    let table = table_view c.args.table.charts.now in
    let depth = c.args.table.depth in
    subst (λ (n : List ℕ). GoesTo table depth n) (sym c.bytes.ensures.bytes)
    (chart_numbered (GoesTo table depth) c.args.table.charts.now c.args.number c.in-Some.chart.now c.in-Some.ensures
    (subst (λ (ns : List (List ℕ)). AreAll (GoesTo table depth) ns) c.requires.named c.requires.deep))
