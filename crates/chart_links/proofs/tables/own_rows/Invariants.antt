use Rattle.std.proofs.Common.{◌≡◌, ◌↔◌, ◌⊎◌, ℕ, drop, length, map}
use Rattle.chart_links.specs.Rows.{RowHas}
use Rattle.chart_links.specs.SummaryViews.{summary_view}
use Rattle.chart_links.specs.Tables.{HaveOwn}
use Rattle.chart_links.proofs.tables.own_rows.Given as goal

abbrev pub invariant-loop-chart : goal.invariant-loop-chart
invariant-loop-chart l = record {
  len : length l.rows.items ≡ length l.names;
  has : (u n : ℕ) → (RowHas l.rows.items u n ⊎ HaveOwn l.names l.known (map summary_view (drop l.chart-index l.charts)) u n) ↔ HaveOwn l.names l.known (map summary_view l.charts) u n;
}
