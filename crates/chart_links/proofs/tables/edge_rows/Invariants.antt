use Rattle.std.proofs.Common.{◌≡◌, ◌↔◌, ◌⊎◌, ◌<◌, ℕ, drop, length, map}
use Rattle.chart_links.specs.Rows.{RowHas}
use Rattle.chart_links.specs.SummaryViews.{summary_view}
use Rattle.chart_links.specs.Tables.{HaveEdge}
use Rattle.chart_links.proofs.tables.edge_rows.Given as goal

abbrev pub invariant-loop-chart : goal.invariant-loop-chart
invariant-loop-chart l = record {
  len : length l.rows.items ≡ length l.names;
  has : (u v : ℕ) → (RowHas l.rows.items u v ⊎ HaveEdge l.names (map summary_view (drop l.chart-index l.charts)) u v) ↔ (((u < length l.names) × (v ≡ u)) ⊎ HaveEdge l.names (map summary_view l.charts) u v);
}
