use Rattle.std.proofs.Common.{◌≡◌, ◌↔◌, ◌<◌, ℕ, length, get_or, []}
use Rattle.chart_links.specs.Rows.{IsGathered, RowHas}
use Rattle.chart_links.proofs.rows.gathered_rows.Given as goal

abbrev pub invariant-loop-first : goal.invariant-loop-first
invariant-loop-first l = record {
  len : length l.rows.items ≡ l.first-index;
  has : (u n : ℕ) → u < l.first-index → RowHas l.rows.items u n ↔ IsGathered (get_or l.over u []) l.sets n;
}
