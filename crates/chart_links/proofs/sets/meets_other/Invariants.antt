use Rattle.std.proofs.Common.{◌≡◌, ◌<◌, ℕ, true}
use Rattle.bit_sets.specs.Blocks.{has_bit}
use Rattle.chart_links.specs.Rows.{RowHas}
use Rattle.chart_links.proofs.sets.meets_other.Given as goal

abbrev pub invariant-loop-number : goal.invariant-loop-number
invariant-loop-number l = (k : ℕ) → k < l.number → (k ≡ l.row → ⊥) → RowHas l.rows l.row k → has_bit l.set k ≡ true → ⊥
